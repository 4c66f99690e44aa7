-- How a call ends.
use Rattle.std.proofs.Common.{◌≡◌, Result, Ok, Err, inl, inr, sym, subst}
use Rattle.std.specs.Prelude.{⊤}
use Rattle.cxl_io.specs.Sink.{SinkState}
use Rattle.cxl_inputs.specs.Ends.{Finishes}
use Rattle.cxl_inputs.specs.Outcome.{Outcome}
use Rattle.cxl_inputs.specs.Stop.{IsStop}
use Rattle.cxl_inputs.specs.declared.status.Status.{Status}
use Rattle.cxl_inputs.specs.declared.stop.Stop.{Stop}
use Rattle.cxl_inputs.specs.declared.stop.Stop.TheVariants as stop
use Rattle.cxl_inputs.proofs.Stops.{stop-weaker, stop-memory}
use Rattle.cxl_reads.specs.Answers.{ComesTo, IsAnswered}

-- what it comes to is written
pub answered : (IsOutcome : Outcome → Type 0) (answer : Result Outcome Stop) (status : Status) (old new : SinkState) → ComesTo IsOutcome answer → Finishes answer status old new → IsAnswered IsOutcome status old new
answered IsOutcome (Ok outcome) status old new comes ends = inl (record { outcome = outcome; is = comes; ends = ends })
answered IsOutcome (Err (stop.Outcome outcome)) status old new comes ends = inl (record { outcome = outcome; is = comes; ends = ends })
answered IsOutcome (Err stop.Memory) status old new comes ends = inr (record { status_is = ends.0; nothing = ends.1 })

-- a call that stops as a step before it did
pub stops_behind : (P Q : Outcome → Type 0) (answer : Result Outcome Stop) (reason : Stop) → answer ≡ Err reason → ((o : Outcome) → P o → Q o) → IsStop P ⊤ reason → ComesTo Q answer
stops_behind P Q answer reason e follows is = subst (ComesTo Q) (sym e) (stop-weaker P Q ⊤ ⊤ reason follows (λ out. out) is)

-- one that stops for want of memory
pub stops_short : (Q : Outcome → Type 0) (answer : Result Outcome Stop) (reason : Stop) → answer ≡ Err reason → reason ≡ stop.Memory → ComesTo Q answer
stops_short Q answer reason e out = subst (ComesTo Q) (sym e) (stop-memory Q ⊤ reason out tt)
