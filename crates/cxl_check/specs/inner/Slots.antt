-- Where a slot goes on from a node that is no endpoint.
use Rattle.std.specs.Prelude.{◌≡◌, ℕ, ◌^◌, ◌/◌, ◌%◌, ◌<◌, ◌≤◌, Option, option_and_then, if◌then◌else◌}
use Rattle.cxl_enc.specs.Codes.{bits_of}
use Rattle.cxl_topo.specs.Tree.{forwards_at, child_of, least_child_of}
use Rattle.cxl_regs.specs.declared.reading.Range.{Range}
use Rattle.cxl_regs.specs.Reading.{decoder_ways, entry_at}
use Rattle.cxl_window.specs.Fields.{WindowFields}
use Rattle.cxl_model.specs.System.{System}
use Rattle.cxl_model.specs.Ranges.{decoder_for, ways_above}
use Rattle.cxl_model.specs.Regions.{slots_an_entry}

-- the child to which the decoder of the range leads it
abbrev pub child_of_slot : System → WindowFields → Range → ℕ → ℕ → Option ℕ
child_of_slot s w r slot n =
    option_and_then (λ d. child_of s.nodes n (entry_at d (slot / slots_an_entry s w r n % decoder_ways d))) (decoder_for s r n)

-- the only child of a node that forwards, or that child
abbrev pub next_of : System → WindowFields → Range → ℕ → ℕ → Option ℕ
next_of s w r slot n = if forwards_at s.nodes n then least_child_of s.nodes n else child_of_slot s w r slot n

-- a window's ways but for a factor of three
pub record AreRootWays (w : WindowFields) (root : ℕ) : Type 0 where
  pub is : root ≡ 2 ^ bits_of w.ways
  pub some : 0 < root
  pub few : root ≤ 16

-- the ports above a node have so many ways together, some and no more than five ports can have
pub record AreWaysAbove (s : System) (r : Range) (n above : ℕ) : Type 0 where
  pub is : above ≡ ways_above s r n
  pub some : 0 < above
  pub few : above ≤ 2 ^ 20
