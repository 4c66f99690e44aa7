-- How a run ends that writes what a command comes to.
use Rattle.std.specs.Prelude.{◌≡◌, ◌⊎◌, [], Result, Ok, Err}
use Rattle.cxl_enc.specs.Faults.{Rose, LeavesCount, CountsExactly}
use Rattle.cxl_io.specs.Sink.{SinkState, Takes, TakesPrefix}
use Rattle.cxl_inputs.specs.Outcome.{Outcome, whole_text}
use Rattle.cxl_inputs.specs.declared.status.Status.{Status}
use Rattle.cxl_inputs.specs.declared.status.Status.TheVariants.{WriteFault, Memory}
use Rattle.cxl_inputs.specs.declared.stop.Stop.{Stop}
use Rattle.cxl_inputs.specs.declared.stop.Stop.TheVariants as stop

-- the outcome's status, all its pieces are written, and no write failed
pub record IsWritten (outcome : Outcome) (status : Status) (old new : SinkState) : Type 0 where
  pub status_is : status ≡ outcome.status
  pub taken : Takes old new (whole_text outcome)
  pub unswallowed : LeavesCount old.counts_failures_alone old.faults new.faults

-- the sink failed, which takes a fault there, behind a part of the text from the front; and no write is tried behind that one
pub record IsCutShort (outcome : Outcome) (status : Status) (old new : SinkState) : Type 0 where
  pub status_is : status ≡ WriteFault
  pub rose : Rose old.faults new.faults
  pub taken : TakesPrefix old new (whole_text outcome)
  pub counted : CountsExactly 1 old.counts_failures_alone old.faults new.faults

-- an outcome is written whole and no write failed, or the sink failed behind a part of its text
abbrev pub Ends : Outcome → Status → SinkState → SinkState → Type 0
Ends outcome status old new = IsWritten outcome status old new ⊎ IsCutShort outcome status old new

-- nothing is written, and no write failed
pub record WritesNothing (old new : SinkState) : Type 0 where
  pub taken : Takes old new []
  pub unswallowed : LeavesCount old.counts_failures_alone old.faults new.faults

-- what a command gives is written; where memory ran out, nothing is
abbrev pub Finishes : Result Outcome Stop → Status → SinkState → SinkState → Type 0
Finishes (Ok outcome) status old new = Ends outcome status old new
Finishes (Err (stop.Outcome outcome)) status old new = Ends outcome status old new
Finishes (Err stop.Memory) status old new = (status ≡ Memory) × WritesNothing old new
