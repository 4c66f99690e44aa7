-- A register image over a tree of nodes, with the host's windows: what all definitions here speak of.
use Rattle.std.specs.Prelude.{ℕ, List, [], slice_get, All, Option, IfSome}
use Rattle.std.specs.Option.{option_map_or}
use Rattle.cxl_topo.specs.declared.node.Node.{Node}
use Rattle.cxl_topo.specs.declared.node.Capacity.{Capacity}
use Rattle.cxl_topo.specs.Tree.{Tree, device_at, device_ram, device_pmem}
pub use Rattle.cxl_topo.specs.Tree.{bridge_uids}
use Rattle.cxl_topo.specs.Faults.{IsTree}
use Rattle.cxl_regs.specs.declared.decoder.Decoder.{Decoder}
use Rattle.cxl_regs.specs.Registers.{Registers, IsBlock}
use Rattle.cxl_image.specs.Images.{HasCapsOf}
use Rattle.cxl_span.specs.Breaches.{BlockKeeps}
use Rattle.cxl_window.specs.Fields.{WindowFields}
use Rattle.cxl_window.specs.Windows.{AreMadeWith}

-- the nodes by number, the block of each, and the windows by index
pub record System : Type 0 where
  pub nodes : List Node
  pub blocks : List Registers
  pub windows : List WindowFields

-- an image over a topology, with the host's windows
abbrev pub system_of : List Registers → Tree → List WindowFields → System
system_of blocks tree windows = record { nodes = tree.nodes; blocks = blocks; windows = windows }

-- a legal tree, an image with its capability words, and windows made with its bridges: what `down`, `check` and `plan` take
-- for granted
pub record IsSystem (s : System) : Type 0 where
  pub tree : IsTree s.nodes
  pub blocks : All IsBlock s.blocks
  pub caps : HasCapsOf s.blocks s.nodes
  pub made : AreMadeWith s.windows (bridge_uids s.nodes)

-- ---- a node's registers

-- its decoders; a node without a block has none
abbrev pub decoders_at : System → ℕ → List Decoder
decoders_at s n = option_map_or (λ block. block.decoders) (slice_get s.blocks n) []

-- decoder i of node n
abbrev pub decoder_at : System → ℕ → ℕ → Option Decoder
decoder_at s n i = slice_get (decoders_at s n) i

-- blocks alone, for what speaks of no tree and no window
abbrev pub blocks_alone : List Registers → System
blocks_alone blocks = record { nodes = []; blocks = blocks; windows = [] }

-- the bytes of ram and of pmem of its device; a port has none
abbrev pub capacity_at : System → ℕ → Option Capacity
capacity_at s n = device_at s.nodes n

-- the bytes of volatile memory of a node's device
abbrev pub ram_at : System → ℕ → ℕ
ram_at s n = device_ram s.nodes n

-- the bytes of persistent memory of a node's device
abbrev pub pmem_at : System → ℕ → ℕ
pmem_at s n = device_pmem s.nodes n

-- its block keeps the rules K2 to K8
abbrev pub KeepsBlock : System → ℕ → Type 0
KeepsBlock s n = IfSome (slice_get s.blocks n) (λ block. BlockKeeps block (ram_at s n) (pmem_at s n))
