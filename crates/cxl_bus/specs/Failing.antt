-- A bus that fails at the calls of a list.
use Rattle.std.specs.Prelude.{ℕ, ◌-◌, nat_le, Bool, true, false, ◌||◌, if◌then◌else◌, List, [], ◌∷◌, ◌++◌, take, length}
use Rattle.cxl_enc.specs.Counters.{Counters, next_count, fails_next, counters_after}
use Rattle.cxl_regs.specs.Registers.{Registers}
use Rattle.cxl_regs.specs.Blocks.{blocks_after}
use Rattle.cxl_bus.specs.declared.sent.Sent.{Sent}
use Rattle.cxl_bus.specs.Failed.{place_limit}

-- its blocks, its counters of reads and writes together, what was sent, and where calls failed
pub record Failing : Type 0 where
  pub blocks : List Registers
  pub counters : Counters
  pub trail : List Sent
  pub failed_at : List ℕ

-- no more than 65,536 writes are told
abbrev pub is_trail_full : Failing → Bool
is_trail_full bus = nat_le 65536 (length bus.trail)

-- a write meets a fault: the call is one of those that fail, or the trail is full
abbrev pub is_write_failing : Failing → Bool
is_write_failing bus = fails_next bus.counters || is_trail_full bus

-- the places where calls failed, and one behind all that was sent, where there is room
abbrev pub places_after : Failing → List ℕ
places_after bus = bus.failed_at ++ take (place_limit - length bus.failed_at) (length bus.trail ∷ [])

-- a fault is counted, and its place is told
abbrev pub after_fault : Failing → Failing
after_fault bus = record bus {
  counters = record bus.counters { faults = next_count bus.counters.faults };
  failed_at = places_after bus;
}

-- a read counts, and changes nothing else
abbrev pub after_read : Failing → Failing
after_read bus = record bus {
  counters = counters_after bus.counters (fails_next bus.counters);
  failed_at = if fails_next bus.counters then places_after bus else bus.failed_at;
}

-- a write that meets a fault only counts; any other is carried out and told
abbrev pub after_write : Failing → ℕ → ℕ → ℕ → Failing
after_write bus node off value =
    if is_write_failing bus then record bus { counters = counters_after bus.counters true; failed_at = places_after bus }
    else record {
      blocks = blocks_after bus.blocks node off value;
      counters = counters_after bus.counters false;
      trail = bus.trail ++ record { node = node; off = off; value = value } ∷ [];
      failed_at = bus.failed_at;
    }
