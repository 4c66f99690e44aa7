-- The decoder blocks of a topology's nodes, in node order.
use Rattle.std.specs.Prelude.{◌≡◌, ℕ, ◌<◌, ◌≤◌, List, length, map, All, slice_get, slice_set, Some, IsSomeAnd}
use Rattle.std.specs.Option.{option_map_or}
use Rattle.cxl_enc.specs.Limits.{node_limit}
use Rattle.cxl_regs.specs.declared.decoder.Decoder.{Decoder}
use Rattle.cxl_regs.specs.Registers.{Registers, IsBlock, IsDecoder, reset_block}
use Rattle.cxl_regs.specs.Writes.{with_decoder}
use Rattle.cxl_topo.specs.declared.node.Node.{Node}
use Rattle.cxl_topo.specs.Kinds.{is_endpoint}

-- the block of a node after reset
abbrev pub reset_block_of : Node → Registers
reset_block_of node = reset_block node.cap (is_endpoint node.kind)

-- the blocks of all nodes after reset
abbrev pub reset_blocks : List Node → List Registers
reset_blocks nodes = map reset_block_of nodes

-- what every image is: the blocks of as many nodes as a topology may have
pub record IsImage (blocks : List Registers) : Type 0 where
  pub few : length blocks ≤ node_limit
  pub each : All IsBlock blocks

-- the block has the node's capability word, and is an endpoint's exactly where the node is an endpoint
pub record IsBlockOf (node : Node) (block : Registers) : Type 0 where
  pub cap : block.cap ≡ node.cap
  pub endpoint : block.endpoint ≡ is_endpoint node.kind

-- one block for each node, with its capability word, and an endpoint's exactly where the node is an endpoint
pub record HasCapsOf (blocks : List Registers) (nodes : List Node) : Type 0 where
  pub count : length blocks ≡ length nodes
  pub each : (i : ℕ) (block : Registers) (node : Node) → slice_get blocks i ≡ Some block → slice_get nodes i ≡ Some node → IsBlockOf node block

-- ---- another decoder

-- the block can hold decoder i with these registers
pub record CanHold (block : Registers) (i : ℕ) (d : Decoder) : Type 0 where
  pub here : i < length block.decoders
  pub decoder : IsDecoder block.endpoint d

-- the node has a block that can
abbrev pub CanPut : List Registers → ℕ → ℕ → Decoder → Type 0
CanPut blocks n i d = IsSomeAnd (slice_get blocks n) (λ block. CanHold block i d)

-- decoder i of block n takes these registers
abbrev pub blocks_with : List Registers → ℕ → ℕ → Decoder → List Registers
blocks_with blocks n i d = option_map_or (λ block. slice_set blocks n (with_decoder block i d)) (slice_get blocks n) blocks
