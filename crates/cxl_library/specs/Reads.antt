-- What a caller is told of what files hold, into a room.
use Rattle.std.specs.Prelude.{◌≡◌, ℕ, Some, List, ◌++◌}
use Rattle.cxl_inputs.specs.Exit.{exit_code}
use Rattle.cxl_inputs.specs.Outcome.{Outcome}
use Rattle.cxl_inputs.specs.declared.status.Status.{Status}
use Rattle.cxl_io.specs.Sink.{SinkState}
use Rattle.cxl_reads.specs.Answers.{IsAnswered}
use Rattle.cxl_library.specs.Rooms.{sink_of}

-- An outcome of this kind is written, with this status, and this text behind what its sink took before; or memory ran out, and there is none.
pub record IsReadOver (IsOutcome : Outcome → Type 0) (status : Status) (text : List ℕ) : Type 0 where
  pub before : List ℕ
  pub new : SinkState
  pub answer : IsAnswered IsOutcome status (sink_of before) new
  -- the text is all that is written
  pub written : new.taken ≡ Some (before ++ text)

-- what C is told: the exit status of the program, and the text
abbrev pub IsReadTold : (Outcome → Type 0) → ℕ → List ℕ → Type 0
IsReadTold IsOutcome code text = (status : Status) × (code ≡ exit_code status) × IsReadOver IsOutcome status text
