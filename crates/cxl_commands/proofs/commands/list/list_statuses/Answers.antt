use Rattle.std.proofs.Common.{refl, subst}
use Rattle.cxl_inputs.specs.declared.status.Status.TheVariants.{Done, Memory}
use Rattle.cxl_commands.specs.Form.{Listing}
use Rattle.cxl_commands.specs.RunByFiles.{IsRunByFiles}
use Rattle.cxl_commands.specs.commands.List.{listed}
use Rattle.cxl_commands.proofs.laws.List.{list_written, memory_in_list}
use Rattle.cxl_commands.proofs.Readings.{one_table, knows_table, table_answer_comes}
use Rattle.cxl_commands.proofs.Runs.{came_to, memory_left}
use Rattle.cxl_commands.proofs.commands.list.list_statuses.Goals as goal

pub returns-clause-list : goal.returns-clause-list
returns-clause-list c = λ form old new status run file is done.
    list_written old new file (came_to old new (Listing file) status Done (subst (λ f. IsRunByFiles f old new status) is run) done)

pub returns-clause-listed : goal.returns-clause-listed
returns-clause-listed c = λ form old new status run file bytes table is there reading.
    table_answer_comes old new status (one_table c.one_reading.ensures.one_table c.one_reading.ensures.one_fault c.one_reading.ensures.not_both) (Listing file) (subst (λ f. IsRunByFiles f old new status) is run) refl table (listed table.records) (knows_table old (Listing file) file bytes table refl there reading) refl

pub returns-clause-memory : goal.returns-clause-memory
returns-clause-memory c = λ form old new status run file is out.
    memory_in_list old new file (memory_left old new (Listing file) (came_to old new (Listing file) status Memory (subst (λ f. IsRunByFiles f old new status) is run) out)).1
