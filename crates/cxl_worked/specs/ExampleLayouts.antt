-- Worked images of further layouts, with their regions: several ways below one target, twelve ways, a switch of one way,
-- a list of ports out of order, both kinds of memory, XOR arithmetic, and a forwarding bridge whose endpoint stands alone.
use Rattle.std.specs.Prelude.{ℕ, true, false, List, [], ◌∷◌, replicate, Some}
use Rattle.cxl_enc.specs.declared.caps.MemKind.TheVariants.{Pmem}
use Rattle.cxl_enc.specs.Limits.{placeholder_cap}
use Rattle.cxl_topo.specs.declared.node.Node.{Node}
use Rattle.cxl_topo.specs.declared.node.NodeKind.TheVariants.{Switch, Endpoint}
use Rattle.cxl_regs.specs.declared.decoder.Decoder.{Decoder}
use Rattle.cxl_regs.specs.Registers.{reset_decoder, reset_block}
use Rattle.cxl_window.specs.Fields.{WindowFields}
use Rattle.cxl_model.specs.declared.chain.Step.{Step}
use Rattle.cxl_model.specs.declared.found.Found.{Found}
use Rattle.cxl_model.specs.Chain.{ChainEnd, Routed}
use Rattle.cxl_model.specs.System.{System}
use Rattle.cxl_worked.specs.Examples.{bridge, endpoint, endpoint_block, endpoint_block_of_two, decoder, forwarding_bridges, of_both, port_block, port_cap, two_bridges, two_gib, window, window_of_both}
use Rattle.cxl_worked.specs.ExampleRegions.{region, with_map}

-- ---- one bridge with two endpoints, under a window of the bridge alone

-- a window over one bridge
abbrev pub window_of_one : WindowFields
window_of_one = window 0x100000000 1 (0 ∷ [])

-- the endpoints at these ports, the region's decoders with this control word, and the bridge's target list
abbrev pub below_one_bridge : ℕ → ℕ → ℕ → ℕ → System
below_one_bridge first second control targets =
    let end = endpoint_block (decoder 0x100000000 0x20000000 control 0) in
    record {
      nodes = bridge 0 ∷ endpoint two_gib 0 0 first ∷ endpoint two_gib 1 0 second ∷ [];
      blocks = port_block (decoder 0x100000000 0x20000000 control targets) ∷ end ∷ end ∷ [];
      windows = window_of_one ∷ [];
    }

-- two ways at 1,024 bytes, while the window of one way says 256
abbrev pub one_bridge : System
one_bridge = below_one_bridge 0 1 0x1612 0x100

-- a region of two endpoints below one bridge
abbrev pub region_below_one : Found
region_below_one = record (region 0x100000000 0x20000000 2 (1 ∷ 2 ∷ [])) { gran = 2 }

-- entry 0 lists port 3, and entry 1 lists port 1
abbrev pub ports_out_of_order : System
ports_out_of_order = below_one_bridge 1 3 0x1610 0x103

-- the same with its endpoints the other way round
abbrev pub region_out_of_order : Found
region_out_of_order = region 0x100000000 0x20000000 2 (2 ∷ 1 ∷ [])

-- ---- six bridges with two endpoints each, under a window of all six, and a region of all twelve

-- a window over six bridges, for a region of twelve ways
abbrev pub window_of_twelve : WindowFields
window_of_twelve = window 0xc0000000 6 (0 ∷ 1 ∷ 2 ∷ 3 ∷ 4 ∷ 5 ∷ [])

-- a bridge selects on 512 bytes, since the window takes the bit of 256; the last two endpoints are `eA` and `eB`
abbrev pub twelve_ways : System
twelve_ways =
    let port = port_block (decoder 0x100000000 0xc0000000 0x1611 0x100) in
    let end = endpoint_block (decoder 0x100000000 0xc0000000 0x16a0 0) in
    record {
      nodes =
          bridge 0 ∷ bridge 1 ∷ bridge 2 ∷ bridge 3 ∷ bridge 4 ∷ bridge 5
          ∷ endpoint two_gib 0 0 0 ∷ endpoint two_gib 1 0 1 ∷ endpoint two_gib 2 1 0 ∷ endpoint two_gib 3 1 1
          ∷ endpoint two_gib 4 2 0 ∷ endpoint two_gib 5 2 1 ∷ endpoint two_gib 6 3 0 ∷ endpoint two_gib 7 3 1
          ∷ endpoint two_gib 8 4 0 ∷ endpoint two_gib 9 4 1 ∷ endpoint two_gib 17 5 0 ∷ endpoint two_gib 18 5 1 ∷ [];
      blocks =
          port ∷ port ∷ port ∷ port ∷ port ∷ port
          ∷ end ∷ end ∷ end ∷ end ∷ end ∷ end ∷ end ∷ end ∷ end ∷ end ∷ end ∷ end ∷ [];
      windows = window_of_twelve ∷ [];
    }

-- the lowest bit of the slot's number and its remainder by three choose the bridge, and the bit above the lowest chooses the port
abbrev pub region_of_twelve : Found
region_of_twelve = region 0x100000000 0xc0000000 12 (6 ∷ 8 ∷ 11 ∷ 13 ∷ 14 ∷ 16 ∷ 7 ∷ 9 ∷ 10 ∷ 12 ∷ 15 ∷ 17 ∷ [])

-- ---- two bridges, and a switch with one port between the first and its endpoint

-- a switch below a bridge
abbrev pub switch : Node
switch = record {
  name = 115 ∷ 48 ∷ [];
  kind = Switch;
  parent = Some record { node = 0; port = 0 };
  cap = port_cap;
  forwards = false;
}

-- at one way the switch's granularity code says nothing, and is 5
abbrev pub with_switch : System
with_switch = record {
  nodes = bridge 0 ∷ bridge 1 ∷ switch ∷ endpoint two_gib 0 2 0 ∷ endpoint two_gib 1 1 0 ∷ [];
  blocks =
      port_block (of_both 0x1600) ∷ port_block (of_both 0x1600) ∷ port_block (of_both 0x1605)
      ∷ endpoint_block (of_both 0x1610) ∷ endpoint_block (of_both 0x1610) ∷ [];
  windows = window_of_both ∷ [];
}

-- a region of two endpoints, past a switch
abbrev pub region_past_switch : Found
region_past_switch = region 0x100000000 0x20000000 2 (3 ∷ 4 ∷ [])

-- ---- one bridge with one endpoint of both kinds of memory, 1 GiB of each

-- an endpoint with memory of both kinds
abbrev pub endpoint_of_both_kinds : Node
endpoint_of_both_kinds = record (endpoint two_gib 0 0 0) { kind = Endpoint record { ram = 0x40000000; pmem = 0x40000000 } }

-- a region of ram at the device's first 256 MiB, and behind it one of pmem, for which the decoder skips what is left of the ram
abbrev pub in_ram : Decoder
in_ram = decoder 0x100000000 0x10000000 0x1600 0

-- a decoder that skips so many bytes, up to persistent memory
abbrev pub in_pmem : ℕ → Decoder
in_pmem tail = decoder 0x110000000 0x10000000 0x1600 tail

-- a region in each kind of memory of one endpoint
abbrev pub both_kinds : System
both_kinds = record {
  nodes = bridge 0 ∷ endpoint_of_both_kinds ∷ [];
  blocks =
      record { cap = port_cap; endpoint = false; enabled = true; decoders = in_ram ∷ in_pmem 0 ∷ replicate 2 reset_decoder }
      ∷ endpoint_block_of_two in_ram (in_pmem 0x30000000) ∷ [];
  windows = window_of_one ∷ [];
}

-- the region in persistent memory
abbrev pub region_of_pmem : Found
region_of_pmem = record {
  base = 0x110000000;
  size = 0x10000000;
  window = 0;
  gran = 0;
  ways = 1;
  kind = Pmem;
  spans = record { endpoint = 1; start = 0x40000000 } ∷ [];
}

-- the window permits ram alone
abbrev pub without_pmem : System
without_pmem = record both_kinds { windows = record window_of_one { restrict = 0x6 } ∷ [] }

-- ---- two bridges whose window chooses by a map

-- a region of two bridges, dealt by a map
abbrev pub two_by_map : System
two_by_map = record two_bridges { windows = with_map window_of_both ∷ [] }

-- ---- two bridges that forward, of which only the first one's endpoint has the range

-- two bridges that forward, of which only the first one's endpoint has the range
abbrev pub forwarding_alone : System
forwarding_alone = record forwarding_bridges {
  blocks =
      reset_block placeholder_cap false ∷ reset_block placeholder_cap false ∷ endpoint_block (of_both 0x1610) ∷ endpoint_block (of_both 0x1010) ∷ [];
}

-- ---- routes

-- a route to a byte of a device by this decoder of the endpoint
abbrev pub route_by : ℕ → ℕ → ℕ → List Step → ℕ → ℕ → ChainEnd
route_by decoder base position steps endpoint dpa =
    Routed (record {
      window = 0;
      position = position;
      steps = steps;
      arrival = record { endpoint = endpoint; decoder = decoder; base = base; dpa = dpa };
    })

-- a step at this decoder of a node
abbrev pub step_by : ℕ → ℕ → ℕ → Step
step_by decoder node entry = record { node = node; decoder = decoder; entry = entry }
