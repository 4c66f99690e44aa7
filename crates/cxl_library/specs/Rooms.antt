-- A room of the caller as a sink.
use Rattle.std.specs.Prelude.{ℕ, true, Some, None, List, ◌∷◌, take}
use Rattle.cxl_io.specs.Sink.{SinkState}
use Rattle.cxl_library.specs.declared.room.TextRoom.{TextRoom}

-- a sink that took these bytes, and never failed
abbrev pub sink_of : List ℕ → SinkState
sink_of bytes = record { taken = Some bytes; faults = 0; counts_failures_alone = true }

-- What a room took, behind a mark that no byte is: the name by which the proof knows whose bytes it fills. A sink never takes back what it took,
-- so whoever lent the room knows that it still fills the same.
abbrev pub room_state : TextRoom → SinkState
room_state room = record {
  taken = Some (room.bytes.ghost_name ∷ take room.taken room.bytes.now);
  faults = room.faults;
  counts_failures_alone = true;
}

-- a sink that tells nothing, and never failed
abbrev pub untold : SinkState
untold = record { taken = None; faults = 0; counts_failures_alone = true }
