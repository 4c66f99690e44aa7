-- What stops a run before its outcome is written, or behind a part of it.
use Rattle.std.specs.Prelude.{◌≡◌, ℕ, ◌<◌, ◌⊎◌, length, take}
use Rattle.std.specs.List.{concat}
use Rattle.cxl_enc.specs.Faults.{Rose, LeavesCount}
use Rattle.cxl_inputs.specs.Outcome.{Outcome}
use Rattle.cxl_inputs.specs.declared.status.Status.{Status}
use Rattle.cxl_inputs.specs.declared.status.Status.TheVariants.{FetchFault, WriteFault, Memory}
use Rattle.cxl_io.specs.Sink.{SinkState, Takes}
use Rattle.cxl_commands.specs.Outside.{Outside}

-- memory ran out behind whole pieces, but not all, and no write failed
pub record IsBehind (outcome : Outcome) (old new : SinkState) : Type 0 where
  pub count : ℕ
  pub short : count < length outcome.pieces
  pub taken : Takes old new (concat (take count outcome.pieces))
  pub unswallowed : LeavesCount old.counts_failures_alone old.faults new.faults

-- the sink failed, which takes a fault there, or memory ran out
abbrev pub IsUnwritten : Status → SinkState → SinkState → Type 0
IsUnwritten status old new = ((status ≡ WriteFault) × Rose old.faults new.faults) ⊎ (status ≡ Memory)

-- a file was not read, which takes a fault of the files, or the outcome is not written
abbrev pub IsStopped : Status → Outside → Outside → Type 0
IsStopped status old new = ((status ≡ FetchFault) × Rose old.files.faults new.files.faults) ⊎ IsUnwritten status old.out new.out
