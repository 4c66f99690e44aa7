use Rattle.std.proofs.Common.{refl, subst}
use Rattle.cxl_inputs.specs.declared.status.Status.TheVariants.{Done}
use Rattle.cxl_commands.specs.Form.{Normal}
use Rattle.cxl_commands.specs.RunByFiles.{IsRunByFiles}
use Rattle.cxl_commands.specs.commands.Normal.{normalized}
use Rattle.cxl_commands.proofs.laws.Normal.{normal_written}
use Rattle.cxl_commands.proofs.Readings.{one_table, knows_table, table_answer_comes}
use Rattle.cxl_commands.proofs.Runs.{came_to}
use Rattle.cxl_commands.proofs.commands.normal.normal_statuses.Goals as goal

pub returns-clause-normal : goal.returns-clause-normal
returns-clause-normal c = λ form old new status run file is done.
    normal_written old new file (came_to old new (Normal file) status Done (subst (λ f. IsRunByFiles f old new status) is run) done)

pub returns-clause-normalized : goal.returns-clause-normalized
returns-clause-normalized c = λ form old new status run file bytes table is there reading.
    table_answer_comes old new status (one_table c.one_reading.ensures.one_table c.one_reading.ensures.one_fault c.one_reading.ensures.not_both) (Normal file) (subst (λ f. IsRunByFiles f old new status) is run) refl table (normalized table) (knows_table old (Normal file) file bytes table refl there reading) refl
