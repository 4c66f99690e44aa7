-- Worked requests, and hosts that refuse them.
use Rattle.std.specs.Prelude.{ℕ, true, false, List, [], ◌∷◌, replicate, Some, None}
use Rattle.cxl_enc.specs.declared.caps.MemKind.TheVariants.{Ram}
use Rattle.cxl_regs.specs.Registers.{Registers, reset_block}
use Rattle.cxl_topo.specs.declared.node.Node.{Node}
use Rattle.cxl_window.specs.declared.window.Verdict.TheVariants.{Align}
use Rattle.cxl_model.specs.declared.request.Request.{Request}
use Rattle.cxl_model.specs.System.{System}
use Rattle.cxl_worked.specs.Examples.{two_bridges, two_bridges_with, four_ways, of_both, endpoint_block, window, window_of_both, bridge, endpoint, two_gib, port_cap}
use Rattle.cxl_worked_machines.specs.Examples.{r0, enabled_endpoint}

-- ram over these endpoints, and with a stated code
abbrev pub asks : ℕ → List ℕ → Request
asks size endpoints = record { name = r0; kind = Ram; size = size; gran = None; endpoints = endpoints }

-- a request with a granularity
abbrev pub asks_at : ℕ → ℕ → List ℕ → Request
asks_at code size endpoints = record (asks size endpoints) { gran = Some code }

-- the first bridge has no decoder left
abbrev pub full_bridge : Registers
full_bridge = record { cap = port_cap; endpoint = false; enabled = true; decoders = replicate 4 (of_both 0x1600) }

-- two bridges whose decoders are all in use
abbrev pub full_bridges : System
full_bridges = two_bridges_with full_bridge full_bridge (endpoint_block (of_both 0x1610)) (endpoint_block (of_both 0x1610))

-- the endpoints, of which 256 MiB are taken, have so many bytes of ram
abbrev pub without_room : ℕ → System
without_room ram = record two_bridges { nodes = bridge 0 ∷ bridge 1 ∷ endpoint ram 0 0 0 ∷ endpoint ram 1 1 0 ∷ [] }

-- two bridges with two endpoints each, and a window for each reason
abbrev pub four_reset : System
four_reset = record {
  nodes = four_ways.nodes;
  blocks =
      reset_block port_cap false ∷ reset_block port_cap false ∷ enabled_endpoint ∷ enabled_endpoint ∷ enabled_endpoint ∷ enabled_endpoint ∷ [];
  windows =
      record window_of_both { verdict = Align } ∷ record window_of_both { restrict = 0xa } ∷ record window_of_both { restrict = 0x1e }
      ∷ window 0x100000000 1 (0 ∷ []) ∷ record window_of_both { gran = 6 } ∷ window 0x20000000 2 (0 ∷ 1 ∷ []) ∷ [];
}

-- three bridges whose endpoints cannot have three ways
abbrev pub plain_endpoint : ℕ → ℕ → Node
plain_endpoint name node = record (endpoint two_gib name node 0) { cap = 0x1302 }

-- three bridges with an endpoint each, and no region
abbrev pub three_reset : System
three_reset = record {
  nodes = bridge 0 ∷ bridge 1 ∷ bridge 2 ∷ plain_endpoint 0 0 ∷ plain_endpoint 1 1 ∷ plain_endpoint 2 2 ∷ [];
  blocks =
      reset_block port_cap false ∷ reset_block port_cap false ∷ reset_block port_cap false ∷ enabled_endpoint ∷ enabled_endpoint ∷ enabled_endpoint ∷ [];
  windows = window 0x60000000 3 (0 ∷ 1 ∷ 2 ∷ []) ∷ [];
}
