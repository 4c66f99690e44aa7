-- How a run ends that writes what a command gives, also one that stopped early.
use Rattle.std.proofs.Common.{◌≡◌, true, Option, Some, None, List, [], Result, Ok, Err, refl, sym, ap, subst, inl, inr}
use Rattle.std.proofs.lemmas.List.{append-nil}
use Rattle.cxl_inputs.specs.Ends.{Ends, Finishes}
use Rattle.cxl_inputs.specs.File.{RunsOutBehind}
use Rattle.cxl_inputs.specs.Outcome.{Outcome}
use Rattle.cxl_inputs.specs.Stop.{IsStop}
use Rattle.cxl_inputs.specs.declared.status.Status.{Status}
use Rattle.cxl_inputs.specs.declared.stop.Stop.{Stop}
use Rattle.cxl_inputs.specs.declared.stop.Stop.TheVariants as stop
use Rattle.cxl_inputs.proofs.Stops.{stop-weaker, stop-memory}
use Rattle.cxl_io.specs.Fetch.{FetchState, AsksFor}
use Rattle.cxl_io.specs.Told.{told_with}
use Rattle.cxl_commands.specs.Answers.{IsOutcomeByFiles, ComesTo}
use Rattle.cxl_commands.specs.Form.{Form, own_files, takes_memory}
use Rattle.cxl_commands.specs.Outside.{Outside}
use Rattle.cxl_commands.specs.RunByFiles.{IsRunByFiles, writes, is_cut, runs_out, before}

module _ (form : Form) (old new : Outside) (status : Status) where
  pub run-ended : (outcome : Outcome) → IsOutcomeByFiles form old.files new.files outcome → Ends outcome status old.out new.out → IsRunByFiles form old new status
  run-ended outcome answers (inl written) = writes outcome answers written
  run-ended outcome answers (inr cut) = is_cut outcome answers cut

  -- what a command gives is written
  pub run-finished : takes_memory form ≡ true → (answer : Result Outcome Stop) → ComesTo form old.files new.files answer → Finishes answer status old.out new.out → IsRunByFiles form old new status
  run-finished takes (Ok outcome) comes finishes = run-ended outcome comes finishes
  run-finished takes (Err (stop.Outcome outcome)) comes finishes = run-ended outcome comes finishes
  run-finished takes (Err stop.Memory) comes finishes = runs_out takes finishes.0 (before comes finishes.1)

-- a command that stops as a step before it did, whose outcomes answer the form
pub comes-stopped : (form : Form) (old new : FetchState) (P : Outcome → Type 0) (answer : Result Outcome Stop) (reason : Stop) → answer ≡ Err reason → ((o : Outcome) → P o → IsOutcomeByFiles form old new o) → IsStop P (RunsOutBehind (own_files form) old new) reason → ComesTo form old new answer
comes-stopped form old new P answer reason e follows is =
    subst (ComesTo form old new) (sym e) (stop-weaker P (IsOutcomeByFiles form old new) (RunsOutBehind (own_files form) old new) (RunsOutBehind (own_files form) old new) reason follows (λ out. out) is)

-- a command that memory stopped behind all of its files
pub comes-out_of_memory : (form : Form) (old new : FetchState) (answer : Result Outcome Stop) (reason : Stop) → answer ≡ Err reason → reason ≡ stop.Memory → RunsOutBehind (own_files form) old new → ComesTo form old new answer
comes-out_of_memory form old new answer reason e memory out =
    subst (ComesTo form old new) (sym e) (stop-memory (IsOutcomeByFiles form old new) (RunsOutBehind (own_files form) old new) reason memory out)

pub told-nothing_more : {A : Type 0} (told : Option (List A)) → told ≡ told_with told []
told-nothing_more None = refl
told-nothing_more (Some told) = ap (λ names. Some names) (sym (append-nil told))

-- no name is asked for
pub asks_nothing : (files : FetchState) → AsksFor files files []
asks_nothing files = told-nothing_more files.asked
