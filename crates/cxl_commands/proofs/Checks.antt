-- How a run of `check` ends.
use Rattle.std.proofs.Common.{◌≡◌, Some, List, ℕ, [], ◌∷◌, Err, refl, subst}
use Rattle.std.specs.Prelude.{⊤}
use Rattle.cxl_table.specs.CedtFields.{CedtFields}
use Rattle.cxl_inputs.specs.Ends.{Finishes}
use Rattle.cxl_inputs.specs.File.{HasNotFailed, RunsOutBehind}
use Rattle.cxl_inputs.specs.Host.{host_of, AreRead, HasNoHost, no_host, by_host}
use Rattle.cxl_inputs.specs.Stop.{IsStop}
use Rattle.cxl_inputs.specs.declared.status.Status.{Status}
use Rattle.cxl_inputs.specs.declared.stop.Stop.{Stop}
use Rattle.cxl_inputs.specs.declared.stop.Stop.TheVariants as stop
use Rattle.cxl_inputs.proofs.Stops.{stop-weaker}
use Rattle.cxl_io.specs.Fetch.{AsksFor}
use Rattle.cxl_io.specs.Sink.{SinkState}
use Rattle.cxl_model.specs.System.{System, system_of, bridge_uids}
use Rattle.cxl_regs.specs.Registers.{Registers}
use Rattle.cxl_topo.specs.Tree.{Tree}
use Rattle.cxl_window.specs.Fields.{WindowFields}
use Rattle.cxl_window.specs.Windows.{windows_of}
use Rattle.cxl_commands.specs.Answers.{IsOutcomeByFiles}
use Rattle.cxl_commands.specs.Form.{Check}
use Rattle.cxl_commands.specs.Outside.{Outside}
use Rattle.cxl_commands.specs.RunByFiles.{IsRunByFiles, runs_out, before, behind}
use Rattle.cxl_commands.specs.commands.Check.{breach_told}
use Rattle.cxl_commands.specs.inner.Reports.{TellsBreach, IsReported, ended, cut, unmade}
use Rattle.cxl_commands.proofs.Stops.{run-ended, run-finished}

-- a check that stopped: at the first breach, which is told, or memory ran out
pub report-stopped : (s : System) (old new : SinkState) (status : Status) (reason : Stop) → IsStop (TellsBreach s) ⊤ reason → Finishes (Err reason) status old new → IsReported s status old new
report-stopped s old new status (stop.Outcome outcome) tells ends = ended outcome (breach_told tells.rule tells.node tells.decoder tells.first tells.told) ends
report-stopped s old new status stop.Memory out ends = unmade ends.0 ends.1

module _ (cedt topo image : List ℕ) (old new : Outside) (status : Status) where
  reported : (table : CedtFields) (tree : Tree) (blocks : List Registers) → AreRead old.files.told cedt topo image table tree blocks → AsksFor old.files new.files (cedt ∷ topo ∷ image ∷ []) → HasNotFailed old.files new.files → IsReported (host_of table tree blocks) status old.out new.out → IsRunByFiles (Check cedt topo image) old new status
  reported table tree blocks of asks unfailed (ended outcome is ends) =
      run-ended (Check cedt topo image) old new status outcome (by_host table tree blocks of (asks, is)) ends
  reported table tree blocks of asks unfailed (cut outcome is e lines) = runs_out refl e (behind outcome (by_host table tree blocks of (asks, is)) unfailed lines)
  reported table tree blocks of asks unfailed (unmade e none) = runs_out refl e (before (record { asked = record { count = 3; asks = asks }; unfailed = unfailed }) none)

  -- the check of a host that was read
  pub run-reported : (table : CedtFields) (tree : Tree) (blocks : List Registers) (windows : List WindowFields) → AreRead old.files.told cedt topo image table tree blocks → windows ≡ windows_of table.records (Some (bridge_uids tree.nodes)) → AsksFor old.files new.files (cedt ∷ topo ∷ image ∷ []) → HasNotFailed old.files new.files → IsReported (system_of blocks tree windows) status old.out new.out → IsRunByFiles (Check cedt topo image) old new status
  run-reported table tree blocks windows of made asks unfailed is =
      reported table tree blocks of asks unfailed (subst (λ ws. IsReported (system_of blocks tree ws) status old.out new.out) made is)

  -- a host without a reading
  pub run-unread : (reason : Stop) → IsStop (HasNoHost cedt topo image old.files new.files) (RunsOutBehind (cedt ∷ topo ∷ image ∷ []) old.files new.files) reason → Finishes (Err reason) status old.out new.out → IsRunByFiles (Check cedt topo image) old new status
  run-unread reason stops finishes =
      run-finished (Check cedt topo image) old new status refl (Err reason)
      (stop-weaker (HasNoHost cedt topo image old.files new.files) (IsOutcomeByFiles (Check cedt topo image) old.files new.files) (RunsOutBehind (cedt ∷ topo ∷ image ∷ []) old.files new.files) (RunsOutBehind (cedt ∷ topo ∷ image ∷ []) old.files new.files) reason (λ o none. no_host none) (λ out. out) stops)
      finishes
