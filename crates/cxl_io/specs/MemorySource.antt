-- A source in memory.
use Rattle.std.specs.Prelude.{ℕ, min, true, Some, if◌then◌else◌, Result, Ok, Err, List, length, drop}
use Rattle.cxl_enc.specs.Counters.{Counters, fails_next, counters_after}
use Rattle.cxl_enc.specs.declared.faults.Failed.{Failed}
use Rattle.cxl_io.specs.Source.{SourceState}

-- a source in memory
pub record MemorySource : Type 0 where
  -- the bytes left
  pub left : List ℕ
  pub counters : Counters

-- it tells them
abbrev pub state_of : MemorySource → SourceState
state_of source = record { left = Some source.left; faults = source.counters.faults; counts_failures_alone = true }

-- what a read into so many bytes answers: how many there are for them
abbrev pub read_answer : MemorySource → ℕ → Result ℕ Failed
read_answer source room = if fails_next source.counters then Err (record {}) else Ok (min room (length source.left))

-- those are gone, none at a fault, and the call is counted
abbrev pub source_after : MemorySource → ℕ → MemorySource
source_after source room = record {
  left = if fails_next source.counters then source.left else drop room source.left;
  counters = counters_after source.counters (fails_next source.counters);
}
