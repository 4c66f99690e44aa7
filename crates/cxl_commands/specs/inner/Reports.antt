-- How writing what a check comes to ends.
use Rattle.std.specs.Prelude.{◌≡◌, ℕ}
use Rattle.cxl_inputs.specs.Ends.{Ends, WritesNothing}
use Rattle.cxl_inputs.specs.Outcome.{Outcome}
use Rattle.cxl_inputs.specs.declared.status.Status.{Status}
use Rattle.cxl_inputs.specs.declared.status.Status.TheVariants.{Memory}
use Rattle.cxl_io.specs.Sink.{SinkState}
use Rattle.cxl_model.specs.Accepted.{IsFirstBreach}
use Rattle.cxl_model.specs.System.{System}
use Rattle.cxl_commands.specs.Stopped.{IsBehind}
use Rattle.cxl_commands.specs.commands.Check.{IsChecked, broken}

-- the first breach is told
pub record TellsBreach (s : System) (outcome : Outcome) : Type 0 where
  pub rule : ℕ
  pub node : ℕ
  pub decoder : ℕ
  pub first : IsFirstBreach s rule node decoder
  pub told : outcome ≡ broken s.nodes rule node decoder

-- An outcome of the check is written, or the sink failed; or memory ran out, behind whole pieces of it or before it.
pub data IsReported (s : System) (status : Status) (old new : SinkState) : Type 0 where
  ended : (outcome : Outcome) → IsChecked s outcome → Ends outcome status old new → IsReported s status old new
  cut : (outcome : Outcome) → IsChecked s outcome → status ≡ Memory → IsBehind outcome old new → IsReported s status old new
  unmade : status ≡ Memory → WritesNothing old new → IsReported s status old new
