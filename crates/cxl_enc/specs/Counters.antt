-- Objects in memory count their calls and faults, and fail at calls that were picked beforehand.
use Rattle.std.specs.Prelude.{ℕ, ◌+◌, ◌-◌, ◌^◌, min, Bool, ◌==◌, if◌then◌else◌, List}
use Rattle.std.specs.List.{list_any}

-- one more; a counter that has reached 2 ^ 64 - 1 stays there
abbrev pub next_count : ℕ → ℕ
next_count n = min (n + 1) (2 ^ 64 - 1)

-- calls, faults, and the calls that are to fail, of an object in memory
pub record Counters : Type 0 where
  -- the numbers of the calls that fail, counted from 1
  pub fails : List ℕ
  pub calls : ℕ
  pub faults : ℕ

-- before the first call
abbrev pub fresh_counters : List ℕ → Counters
fresh_counters fails = record { fails = fails; calls = 0; faults = 0 }

-- whether the next call is one of those that fail
abbrev pub fails_next : Counters → Bool
fails_next counters = list_any (λ number. number == next_count counters.calls) counters.fails

-- after one more call, which met a fault or none
abbrev pub counters_after : Counters → Bool → Counters
counters_after counters fault = record {
  fails = counters.fails;
  calls = next_count counters.calls;
  faults = if fault then next_count counters.faults else counters.faults;
}
