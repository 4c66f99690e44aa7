-- Calls that read files: their sink keeps all that it took, so a room is the same that it was.
use Rattle.std.proofs.Common.{◌≡◌, ℕ, List, [], ◌∷◌, take, Some, ap, inl, inr}
use Rattle.cxl_inputs.specs.Ends.{Ends}
use Rattle.cxl_inputs.specs.Outcome.{Outcome, whole_text}
use Rattle.cxl_inputs.specs.declared.status.Status.{Status}
use Rattle.cxl_io.specs.Sink.{SinkState, Takes}
use Rattle.cxl_reads.specs.Answers.{IsAnswered}
use Rattle.cxl_library.specs.Reads.{IsReadOver}
use Rattle.cxl_library.specs.Rooms.{sink_of, room_state}
use Rattle.cxl_library.specs.declared.room.TextRoom.{TextRoom}
use Rattle.cxl_library.proofs.Runs.{first_of}

writes : (outcome : Outcome) (status : Status) (old new : SinkState) → Ends outcome status old new → (text : List ℕ) × Takes old new text
writes outcome status old new (inl whole) = (whole_text outcome, whole.taken)
writes outcome status old new (inr short) = (take short.taken.count (whole_text outcome), short.taken.taken)

answer_writes : (IsOutcome : Outcome → Type 0) (status : Status) (old new : SinkState) → IsAnswered IsOutcome status old new
    → (text : List ℕ) × Takes old new text
answer_writes IsOutcome status old new (inl told) = writes told.outcome status old new told.ends
answer_writes IsOutcome status old new (inr out) = ([], out.nothing.taken)

module _ (IsOutcome : Outcome → Type 0) (status : Status) (mark : ℕ) (room : TextRoom) where
  pub reads_same_room : IsAnswered IsOutcome status (sink_of (mark ∷ [])) (room_state room) → room.bytes.ghost_name ≡ mark
  reads_same_room answer = ap first_of (answer_writes IsOutcome status (sink_of (mark ∷ [])) (room_state room) answer).1

  pub read_over : IsAnswered IsOutcome status (sink_of (mark ∷ [])) (room_state room) → IsReadOver IsOutcome status (take room.taken room.bytes.now)
  read_over answer = record {
    before = mark ∷ [];
    new = room_state room;
    answer = answer;
    written = ap (λ m. Some (m ∷ take room.taken room.bytes.now)) (reads_same_room answer);
  }
