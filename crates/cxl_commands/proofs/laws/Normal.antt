-- What a run of `normal` comes to.
use Rattle.std.proofs.Common.{List, ℕ}
use Rattle.cxl_inputs.specs.Outcome.{whole_text}
use Rattle.cxl_inputs.specs.declared.status.Status.TheVariants.{Done}
use Rattle.cxl_io.specs.Sink.{Takes}
use Rattle.cxl_commands.specs.Form.{Normal}
use Rattle.cxl_commands.specs.Outside.{Outside}
use Rattle.cxl_commands.specs.commands.Normal.{IsNormalText}
use Rattle.cxl_commands.specs.declared.form.TableAsk.TheVariants as asks
use Rattle.cxl_commands.proofs.Pieces.{one_text}
use Rattle.cxl_commands.proofs.Runs.{Came, table_done}

module _ (old new : Outside) where
  pub normal_written : (file : List ℕ) → Came old new (Normal file) Done → (bytes : List ℕ) × IsNormalText (old.files.told file) bytes × Takes old.out new.out bytes
  normal_written file came =
      let at = table_done old new file asks.Normal came in
      (whole_text at.outcome, record { table = at.table; is_table = at.of; spelled = one_text at.outcome Done _ at.answer }, at.written.taken)
