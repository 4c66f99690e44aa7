-- How a call ends that tells what the bytes of files hold.
use Rattle.std.specs.Prelude.{◌≡◌, ℕ, ◌⊎◌, List, Result, Ok, Err, ⊤, codes}
use Rattle.cxl_io.specs.Sink.{SinkState}
use Rattle.cxl_inputs.specs.Ends.{Ends, WritesNothing}
use Rattle.cxl_inputs.specs.Outcome.{Outcome, one_piece}
use Rattle.cxl_inputs.specs.Stop.{IsStop}
use Rattle.cxl_inputs.specs.declared.status.Status.{Status}
use Rattle.cxl_inputs.specs.declared.status.Status.TheVariants.{Done, Memory}
use Rattle.cxl_inputs.specs.declared.stop.Stop.{Stop}

-- the text, and status 0
abbrev pub told : List ℕ → Outcome
told text = one_piece Done text

-- what it comes to is of this kind, unless memory ran out
abbrev pub ComesTo : (Outcome → Type 0) → Result Outcome Stop → Type 0
ComesTo IsOutcome (Ok outcome) = IsOutcome outcome
ComesTo IsOutcome (Err stop) = IsStop IsOutcome ⊤ stop

-- an outcome of this kind is written
pub record IsTold (IsOutcome : Outcome → Type 0) (status : Status) (old new : SinkState) : Type 0 where
  pub outcome : Outcome
  pub is : IsOutcome outcome
  pub ends : Ends outcome status old new

-- memory ran out, and nothing is written
pub record IsOut (status : Status) (old new : SinkState) : Type 0 where
  pub status_is : status ≡ Memory
  pub nothing : WritesNothing old new

-- an outcome of this kind is written, or memory ran out and nothing is
abbrev pub IsAnswered : (Outcome → Type 0) → Status → SinkState → SinkState → Type 0
IsAnswered IsOutcome status old new = IsTold IsOutcome status old new ⊎ IsOut status old new

-- the name under which a topology is told where it is too large
abbrev pub topology_name : List ℕ
topology_name = codes "topology"

-- and that of an image
abbrev pub image_name : List ℕ
image_name = codes "image"

-- and that of a table
abbrev pub table_name : List ℕ
table_name = codes "cedt"
