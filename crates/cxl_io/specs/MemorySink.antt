-- A sink in memory with a fixed room.
use Rattle.std.specs.Prelude.{ℕ, ◌-◌, Some, min, Bool, true, ◌||◌, ◌==◌, if◌then◌else◌, Result, Ok, Err, List, ◌++◌, length, take}
use Rattle.cxl_enc.specs.declared.faults.Failed.{Failed}
use Rattle.cxl_enc.specs.Counters.{Counters, fails_next, counters_after}
use Rattle.cxl_io.specs.Sink.{SinkState}

-- a sink in memory
pub record MemorySink : Type 0 where
  -- those taken so far
  pub bytes : List ℕ
  -- how many bytes it takes in all
  pub room : ℕ
  pub counters : Counters

-- it tells what it took
abbrev pub state_of : MemorySink → SinkState
state_of sink = record { taken = Some sink.bytes; faults = sink.counters.faults; counts_failures_alone = true }

-- how many bytes it still takes
abbrev pub room_left : MemorySink → ℕ
room_left sink = sink.room - length sink.bytes

-- whether a write meets a fault: the call is one of those that fail, or no room is left
abbrev pub write_fails : MemorySink → Bool
write_fails sink = fails_next sink.counters || (room_left sink == 0)

-- what a write answers: how many of the bytes have room
abbrev pub write_answer : MemorySink → List ℕ → Result ℕ Failed
write_answer sink bytes = if write_fails sink then Err (record {}) else Ok (min (length bytes) (room_left sink))

-- the bytes that have room are taken, none at a fault, and the call is counted
abbrev pub sink_after : MemorySink → List ℕ → MemorySink
sink_after sink bytes = record {
  bytes = if write_fails sink then sink.bytes else sink.bytes ++ take (room_left sink) bytes;
  room = sink.room;
  counters = counters_after sink.counters (write_fails sink);
}
