-- Worked images over small trees: a law says which of them are accepted, and what the others break first.
use Rattle.std.specs.Prelude.{ℕ, ◌+◌, ◌/◌, ◌%◌, true, false, List, [], ◌∷◌, replicate, Some, None}
use Rattle.cxl_topo.specs.declared.node.Node.{Node}
use Rattle.cxl_topo.specs.declared.node.NodeKind.TheVariants.{Bridge, Endpoint}
use Rattle.cxl_enc.specs.Bits.{control_lock, control_commit, control_committed, control_error, control_host_only}
use Rattle.cxl_enc.specs.Limits.{placeholder_cap}
use Rattle.cxl_regs.specs.declared.decoder.Decoder.{Decoder}
use Rattle.cxl_regs.specs.Registers.{Registers, reset_decoder, reset_block}
use Rattle.cxl_regs.specs.Words.{has_bit}
use Rattle.cxl_window.specs.Fields.{WindowFields}
use Rattle.cxl_window.specs.declared.window.Verdict.TheVariants.{Usable}
use Rattle.cxl_model.specs.System.{System}

-- ---- the parts

-- the capability words: four decoders, eight targets in a port, all ways in an endpoint, all address bits
abbrev pub port_cap : ℕ
port_cap = 0x382

-- the capability word of an endpoint's block: four decoders
abbrev pub endpoint_cap : ℕ
endpoint_cap = 0x1b02

-- bridge `hb0`, `hb1` .. with the UID of its number
abbrev pub bridge : ℕ → Node
bridge uid = record { name = 104 ∷ 98 ∷ (48 + uid) ∷ []; kind = Bridge uid; parent = None; cap = port_cap; forwards = false }

-- one that has no decoders of its own
abbrev pub forwarding_bridge : ℕ → Node
forwarding_bridge uid = record { name = 104 ∷ 98 ∷ (48 + uid) ∷ []; kind = Bridge uid; parent = None; cap = placeholder_cap; forwards = true }

-- endpoint `e0`, `e1` .. at a port of a node, with so many bytes of ram
abbrev pub endpoint : ℕ → ℕ → ℕ → ℕ → Node
endpoint ram name node port = record {
  name = 101 ∷ (48 + name) ∷ [];
  kind = Endpoint record { ram = ram; pmem = 0 };
  parent = Some record { node = node; port = port };
  cap = endpoint_cap;
  forwards = false;
}

-- two gibibytes
abbrev pub two_gib : ℕ
two_gib = 0x80000000

-- a decoder by its base, size, control word and target list; an endpoint's skip is 0
abbrev pub decoder : ℕ → ℕ → ℕ → ℕ → Decoder
decoder base size control tail = record {
  base = base;
  size = size;
  gran = control % 16;
  ways = control / 16 % 16;
  lock = has_bit control control_lock;
  commit = has_bit control control_commit;
  committed = has_bit control control_committed;
  error = has_bit control control_error;
  host_only = has_bit control control_host_only;
  tail = tail;
}

-- blocks whose first decoder is this one, and of an endpoint also whose first two are these
abbrev pub port_block : Decoder → Registers
port_block d = record { cap = port_cap; endpoint = false; enabled = true; decoders = d ∷ replicate 3 reset_decoder }

-- an endpoint's block with one decoder in use
abbrev pub endpoint_block : Decoder → Registers
endpoint_block d = record { cap = endpoint_cap; endpoint = true; enabled = true; decoders = d ∷ replicate 3 reset_decoder }

-- an endpoint's block with two decoders in use
abbrev pub endpoint_block_of_two : Decoder → Decoder → Registers
endpoint_block_of_two d e = record { cap = endpoint_cap; endpoint = true; enabled = true; decoders = d ∷ e ∷ replicate 2 reset_decoder }

-- a usable window of 256 bytes over bridges, from 4 GiB on, that permits host-only memory of both kinds
abbrev pub window : ℕ → ℕ → List ℕ → WindowFields
window size ways targets = record {
  index = 0;
  base = 0x100000000;
  size = size;
  ways = ways;
  gran = 0;
  xor = false;
  maps = replicate 4 0;
  restrict = 0xe;
  targets = targets;
  verdict = Usable;
}

-- ---- two bridges, each with one endpoint, under a window of both

-- a decoder of the region that spans both endpoints, 256 MiB of each
abbrev pub of_both : ℕ → Decoder
of_both control = decoder 0x100000000 0x20000000 control 0

-- two bridges with an endpoint each
abbrev pub two_nodes_each : List Node
two_nodes_each = bridge 0 ∷ bridge 1 ∷ endpoint two_gib 0 0 0 ∷ endpoint two_gib 1 1 0 ∷ []

-- a window over both bridges
abbrev pub window_of_both : WindowFields
window_of_both = window 0x100000000 2 (0 ∷ 1 ∷ [])

-- its image with these blocks
abbrev pub two_bridges_with : Registers → Registers → Registers → Registers → System
two_bridges_with hb0 hb1 e0 e1 = record { nodes = two_nodes_each; blocks = hb0 ∷ hb1 ∷ e0 ∷ e1 ∷ []; windows = window_of_both ∷ [] }

-- one region over two bridges, an endpoint each
abbrev pub two_bridges : System
two_bridges =
    two_bridges_with (port_block (of_both 0x1600)) (port_block (of_both 0x1600)) (endpoint_block (of_both 0x1610)) (endpoint_block (of_both 0x1610))

-- the second bridge's decoder is not committed
abbrev pub without_hb1 : System
without_hb1 =
    two_bridges_with (port_block (of_both 0x1600)) (port_block (of_both 0x1000)) (endpoint_block (of_both 0x1610)) (endpoint_block (of_both 0x1610))

-- the first endpoint's decoder has the granularity code 1
abbrev pub with_wrong_code : System
with_wrong_code =
    two_bridges_with (port_block (of_both 0x1600)) (port_block (of_both 0x1600)) (endpoint_block (of_both 0x1611)) (endpoint_block (of_both 0x1610))

-- the first endpoint has a second range, to which its bridge does not lead
abbrev pub with_stray_range : System
with_stray_range =
    two_bridges_with (port_block (of_both 0x1600)) (port_block (of_both 0x1600))
    (endpoint_block_of_two (of_both 0x1610) (decoder 0x120000000 0x20000000 0x1610 0)) (endpoint_block (of_both 0x1610))

-- the second endpoint's decoder has the error bit
abbrev pub with_error : System
with_error =
    two_bridges_with (port_block (of_both 0x1600)) (port_block (of_both 0x1600)) (endpoint_block (of_both 0x1610)) (endpoint_block (of_both 0x1e10))

-- the window permits persistent memory alone
abbrev pub without_ram : System
without_ram = record two_bridges { windows = record window_of_both { restrict = 0xa } ∷ [] }

-- the window is one of the first bridge alone, and the second bridge has the range all the same
abbrev pub with_untargeted_bridge : System
with_untargeted_bridge = record two_bridges { windows = window 0x100000000 1 (0 ∷ []) ∷ [] }

-- ---- the same with bridges that forward

-- the same where both bridges forward, with this block in their place
abbrev pub forwarding_with : Registers → System
forwarding_with placeholder = record {
  nodes = forwarding_bridge 0 ∷ forwarding_bridge 1 ∷ endpoint two_gib 0 0 0 ∷ endpoint two_gib 1 1 0 ∷ [];
  blocks = placeholder ∷ reset_block placeholder_cap false ∷ endpoint_block (of_both 0x1610) ∷ endpoint_block (of_both 0x1610) ∷ [];
  windows = window_of_both ∷ [];
}

-- both bridges forward, with placeholders in their place
abbrev pub forwarding_bridges : System
forwarding_bridges = forwarding_with (reset_block placeholder_cap false)

-- the first bridge's placeholder is committed all the same
abbrev pub with_committed_placeholder : System
with_committed_placeholder = forwarding_with record { cap = placeholder_cap; endpoint = false; enabled = true; decoders = of_both 0x1600 ∷ [] }

-- ---- three bridges, each with one endpoint, under a window of all three

-- a region of 768 MiB that starts 256 MiB after the window
abbrev pub off_thirds : System
off_thirds =
    let port = port_block (decoder 0x110000000 0x30000000 0x1600 0) in
    let end = endpoint_block (decoder 0x110000000 0x30000000 0x1680 0) in
    record {
      nodes =
          bridge 0 ∷ bridge 1 ∷ bridge 2 ∷ endpoint two_gib 0 0 0 ∷ endpoint two_gib 1 1 0 ∷ endpoint two_gib 2 2 0 ∷ [];
      blocks = port ∷ port ∷ port ∷ end ∷ end ∷ end ∷ [];
      windows = window 0x60000000 3 (0 ∷ 1 ∷ 2 ∷ []) ∷ [];
    }

-- ---- three bridges, each with two endpoints, and a region of all six

-- one region of six ways
abbrev pub six_ways : System
six_ways =
    let port = port_block (decoder 0x100000000 0x60000000 0x1610 0x100) in
    let end = endpoint_block (decoder 0x100000000 0x60000000 0x1690 0) in
    record {
      nodes =
          bridge 0 ∷ bridge 1 ∷ bridge 2 ∷ endpoint two_gib 0 0 0 ∷ endpoint two_gib 1 0 1 ∷ endpoint two_gib 2 1 0
          ∷ endpoint two_gib 3 1 1 ∷ endpoint two_gib 4 2 0 ∷ endpoint two_gib 5 2 1 ∷ [];
      blocks = port ∷ port ∷ port ∷ end ∷ end ∷ end ∷ end ∷ end ∷ end ∷ [];
      windows = window 0x60000000 3 (0 ∷ 1 ∷ 2 ∷ []) ∷ [];
    }

-- ---- two bridges, each with two endpoints, and a region of all four

-- whose bridges have this control word and target list
abbrev pub four_ways_with : ℕ → ℕ → System
four_ways_with control targets =
    let port = port_block (decoder 0x100000000 0x40000000 control targets) in
    let end = endpoint_block (decoder 0x100000000 0x40000000 0x1620 0) in
    record {
      nodes =
          bridge 0 ∷ bridge 1 ∷ endpoint two_gib 0 0 0 ∷ endpoint two_gib 1 0 1 ∷ endpoint two_gib 2 1 0 ∷ endpoint two_gib 3 1 1 ∷ [];
      blocks = port ∷ port ∷ end ∷ end ∷ end ∷ end ∷ [];
      windows = window_of_both ∷ [];
    }

-- a bridge selects on 512 bytes, since the window takes the bit of 256
abbrev pub four_ways : System
four_ways = four_ways_with 0x1611 0x100

-- a region of four ways whose bridges have the code of the window
abbrev pub with_window_code : System
with_window_code = four_ways_with 0x1610 0x100

-- both entries name port 0
abbrev pub with_repeated_port : System
with_repeated_port = four_ways_with 0x1611 0
