-- What a run of `list` comes to.
use Rattle.std.proofs.Common.{◌≡◌, ℕ, ◌⊎◌, List, ap, subst, inl, inr}
use Rattle.cxl_inputs.specs.Outcome.{Outcome, whole_text}
use Rattle.cxl_inputs.specs.Table.{no_table, by_table}
use Rattle.cxl_inputs.specs.declared.status.Status.TheVariants.{Done}
use Rattle.cxl_io.specs.Sink.{Takes}
use Rattle.cxl_commands.specs.Answers.{IsOutcomeByFiles}
use Rattle.cxl_commands.specs.Stopped.{IsBehind}
use Rattle.cxl_commands.specs.Form.{Listing}
use Rattle.cxl_commands.specs.Outside.{Outside}
use Rattle.cxl_commands.specs.RunByFiles.{RunsOut, before, behind}
use Rattle.cxl_commands.specs.commands.List.{IsListText, TakesLines}
use Rattle.cxl_commands.specs.declared.form.TableAsk.TheVariants as asks
use Rattle.cxl_commands.proofs.Pieces.{nothing_taken, nothing_of, no_table_is_one}
use Rattle.cxl_commands.proofs.Runs.{Came, table_done}

module _ (old new : Outside) where
  pub list_written : (file : List ℕ) → Came old new (Listing file) Done → (text : List ℕ) × IsListText (old.files.told file) text × Takes old.out new.out text
  list_written file came =
      let at = table_done old new file asks.Listing came in
      (whole_text at.outcome, record { table = at.table; is_table = at.of; lines = ap whole_text at.answer }, at.written.taken)

  lines_of_file : (file : List ℕ) (outcome : Outcome) → IsOutcomeByFiles (Listing file) old.files new.files outcome → IsBehind outcome old.out new.out → (new.out.taken ≡ old.out.taken) ⊎ TakesLines (old.files.told file) old.out new.out
  lines_of_file file outcome (no_table none) lines = inl (nothing_of old.out new.out outcome (no_table_is_one old.files new.files file outcome none) lines)
  lines_of_file file outcome (by_table table of answer) lines =
      let at = subst (λ o. IsBehind o old.out new.out) answer.1 lines in inr (record { table = table; is_table = of; count = at.count; taken = at.taken })

  pub memory_in_list : (file : List ℕ) → RunsOut (Listing file) old new → (new.out.taken ≡ old.out.taken) ⊎ TakesLines (old.files.told file) old.out new.out
  memory_in_list file (before out none) = inl (nothing_taken old.out new.out none.taken)
  memory_in_list file (behind outcome answers unfailed lines) = lines_of_file file outcome answers lines
