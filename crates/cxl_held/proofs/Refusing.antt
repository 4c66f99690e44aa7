-- What is told of an image over which no session opens.
use Rattle.std.proofs.Common.{◌≡◌, ℕ, ◌<◌, Result, Ok, Err, refl, subst}
use Rattle.std.specs.Prelude.{⊤}
use Rattle.cxl_check.specs.declared.fault.Breach.{Breach}
use Rattle.cxl_commands.specs.commands.RefusedStart.{too_many_regions}
use Rattle.cxl_commands.specs.inner.Reports.{TellsBreach}
use Rattle.cxl_inputs.specs.Ends.{Finishes}
use Rattle.cxl_inputs.specs.Outcome.{Outcome}
use Rattle.cxl_inputs.specs.Stop.{IsStop}
use Rattle.cxl_inputs.specs.declared.status.Status.{Status}
use Rattle.cxl_inputs.specs.declared.stop.Stop.{Stop}
use Rattle.cxl_inputs.specs.declared.stop.Stop.TheVariants as stop
use Rattle.cxl_io.specs.Sink.{SinkState}
use Rattle.cxl_machine.specs.declared.fault.OpenFault.{OpenFault}
use Rattle.cxl_machine.specs.declared.fault.OpenFault.TheVariants as faults
use Rattle.cxl_model.specs.Listed.{region_limit}
use Rattle.cxl_model.specs.System.{System}
use Rattle.cxl_opening.specs.Opening.{HasRegions}
use Rattle.cxl_held.specs.Sessions.{IsRefused, breach, full, unmade}

module _ (s : System) (old new : SinkState) (status : Status) where
  pub refused_by : (fault : OpenFault) (answer : Result Outcome Stop) → ((b : Breach) → fault ≡ faults.Breach b → ⊥)
      → ((n : ℕ) → fault ≡ faults.Full n → HasRegions s n × (region_limit < n))
      → ((n : ℕ) → fault ≡ faults.Full n → answer ≡ Ok too_many_regions)
      → (fault ≡ faults.Bus → ⊥)
      → (fault ≡ faults.Memory → answer ≡ Err stop.Memory)
      → Finishes answer status old new → IsRefused s status old new
  refused_by (faults.Breach b) answer whole many told never out ends = absurd (whole b refl)
  refused_by (faults.Full n) answer whole many told never out ends =
      full n (many n refl).0 (many n refl).1 (subst (λ (a : Result Outcome Stop). Finishes a status old new) (told n refl) ends)
  refused_by faults.Bus answer whole many told never out ends = absurd (never refl)
  refused_by faults.Memory answer whole many told never out ends =
      let written = subst (λ (a : Result Outcome Stop). Finishes a status old new) (out refl) ends in unmade written.0 written.1

  -- the check of the image stopped
  pub refused_unchecked : (reason : Stop) → IsStop (TellsBreach s) ⊤ reason → Finishes (Err reason) status old new → IsRefused s status old new
  refused_unchecked (stop.Outcome outcome) tells ends = breach outcome tells ends
  refused_unchecked stop.Memory out ends = unmade ends.0 ends.1
