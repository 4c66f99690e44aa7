-- How a run of `list` ends.
use Rattle.std.proofs.Common.{◌≡◌, List, ℕ, [], ◌∷◌, Err, refl}
use Rattle.cxl_table.specs.CedtFields.{CedtFields}
use Rattle.cxl_inputs.specs.Ends.{Ends, Finishes}
use Rattle.cxl_inputs.specs.File.{HasNotFailed, RunsOutBehind}
use Rattle.cxl_inputs.specs.Stop.{IsStop}
use Rattle.cxl_inputs.specs.Table.{IsTableOf, HasNoTable, no_table, by_table}
use Rattle.cxl_inputs.specs.declared.status.Status.{Status}
use Rattle.cxl_inputs.specs.declared.status.Status.TheVariants.{Memory}
use Rattle.cxl_inputs.specs.declared.stop.Stop.{Stop}
use Rattle.cxl_inputs.proofs.Stops.{stop-weaker}
use Rattle.cxl_io.specs.Fetch.{AsksFor}
use Rattle.cxl_commands.specs.Answers.{IsOutcomeByFiles}
use Rattle.cxl_commands.specs.Stopped.{IsBehind}
use Rattle.cxl_commands.specs.Form.{Listing}
use Rattle.cxl_commands.specs.Outside.{Outside}
use Rattle.cxl_commands.specs.RunByFiles.{IsRunByFiles, runs_out, behind}
use Rattle.cxl_commands.specs.commands.List.{listed}
use Rattle.cxl_commands.proofs.Stops.{run-ended, run-finished}

module _ (file : List ℕ) (old new : Outside) (status : Status) where
  listed-answers : (table : CedtFields) → IsTableOf (old.files.told file) table → AsksFor old.files new.files (file ∷ []) → IsOutcomeByFiles (Listing file) old.files new.files (listed table.records)
  listed-answers table of asks = by_table table of (asks, refl)

  pub run-listed : (table : CedtFields) → IsTableOf (old.files.told file) table → AsksFor old.files new.files (file ∷ []) → Ends (listed table.records) status old.out new.out → IsRunByFiles (Listing file) old new status
  run-listed table of asks ended = run-ended (Listing file) old new status (listed table.records) (listed-answers table of asks) ended

  pub run-behind : (table : CedtFields) → IsTableOf (old.files.told file) table → AsksFor old.files new.files (file ∷ []) → HasNotFailed old.files new.files → status ≡ Memory → IsBehind (listed table.records) old.out new.out → IsRunByFiles (Listing file) old new status
  run-behind table of asks unfailed is lines = runs_out refl is (behind (listed table.records) (listed-answers table of asks) unfailed lines)

  pub run-stopped : (reason : Stop) → IsStop (HasNoTable file old.files new.files) (RunsOutBehind (file ∷ []) old.files new.files) reason → Finishes (Err reason) status old.out new.out → IsRunByFiles (Listing file) old new status
  run-stopped reason stops finishes =
      run-finished (Listing file) old new status refl (Err reason)
      (stop-weaker (HasNoTable file old.files new.files) (IsOutcomeByFiles (Listing file) old.files new.files) (RunsOutBehind (file ∷ []) old.files new.files) (RunsOutBehind (file ∷ []) old.files new.files) reason (λ o none. no_table none) (λ out. out) stops)
      finishes
