-- The regions of the worked images, and where an address goes in them.
use Rattle.std.specs.Prelude.{ℕ, true, List, [], ◌∷◌, map}
use Rattle.cxl_enc.specs.declared.caps.MemKind.TheVariants.{Ram}
use Rattle.cxl_window.specs.Fields.{WindowFields}
use Rattle.cxl_model.specs.declared.found.Found.{Found}
use Rattle.cxl_model.specs.declared.chain.Step.{Step}
use Rattle.cxl_model.specs.Chain.{ChainEnd, Routed}
use Rattle.cxl_worked.specs.Examples.{window}

-- a region of ram in the first window at 256 bytes, with spans from device address 0 on of these endpoints
abbrev pub region : ℕ → ℕ → ℕ → List ℕ → Found
region base size ways endpoints = record {
  base = base;
  size = size;
  window = 0;
  gran = 0;
  ways = ways;
  kind = Ram;
  spans = map (λ n. record { endpoint = n; start = 0 }) endpoints;
}

-- of both endpoints under two bridges, of all four, and of all six under three, by the numbers of their nodes
abbrev pub region_of_two : Found
region_of_two = region 0x100000000 0x20000000 2 (2 ∷ 3 ∷ [])

-- a region of four ways
abbrev pub region_of_four : Found
region_of_four = region 0x100000000 0x40000000 4 (2 ∷ 4 ∷ 3 ∷ 5 ∷ [])

-- slot by slot the bridges take turns, and so do the ports of each
abbrev pub region_of_six : Found
region_of_six = region 0x100000000 0x60000000 6 (3 ∷ 6 ∷ 7 ∷ 4 ∷ 5 ∷ 8 ∷ [])

-- a window over three bridges
abbrev pub window_of_three : WindowFields
window_of_three = window 0x60000000 3 (0 ∷ 1 ∷ 2 ∷ [])

-- under six bridges with one endpoint each, whose window chooses by a map
abbrev pub region_by_map : Found
region_by_map = region 0x100000000 0x60000000 6 (6 ∷ 7 ∷ 8 ∷ 9 ∷ 10 ∷ 11 ∷ [])

-- a window with XOR arithmetic by one map
abbrev pub with_map : WindowFields → WindowFields
with_map w = record w { xor = true; maps = 0x404100 ∷ 0 ∷ 0 ∷ 0 ∷ [] }

-- a window over six bridges
abbrev pub window_of_six : WindowFields
window_of_six = window 0x60000000 6 (0 ∷ 1 ∷ 2 ∷ 3 ∷ 4 ∷ 5 ∷ [])

-- a route by the first window to a byte of an endpoint's first decoder
abbrev pub route : ℕ → List Step → ℕ → ℕ → ChainEnd
route position steps endpoint dpa =
    Routed (record {
      window = 0;
      position = position;
      steps = steps;
      arrival = record { endpoint = endpoint; decoder = 0; base = 0x100000000; dpa = dpa };
    })

-- a step at a node's first decoder
abbrev pub step : ℕ → ℕ → Step
step node entry = record { node = node; decoder = 0; entry = entry }
