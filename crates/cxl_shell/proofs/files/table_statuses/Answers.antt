use Rattle.std.proofs.Common.{refl}
use Rattle.cxl_table.specs.CedtFields.{CedtFields}
use Rattle.cxl_cedt.specs.declared.fault.CedtFault.{CedtFault}
use Rattle.cxl_cedt.specs.declared.fault.CedtFault.TheVariants.{Memory}
use Rattle.cxl_inputs.specs.Table.{IsReading, IsFaulty}
use Rattle.cxl_inputs.specs.declared.status.Status.TheVariants.{BadTable}
use Rattle.cxl_shell.proofs.Behind.{table_behind}
use Rattle.cxl_shell.proofs.Faults.{no_memory}
use Rattle.cxl_shell.proofs.Lifted.{lifted, not_early}
use Rattle.cxl_commands.proofs.Readings.{one_table, AfterTable, table_step}
use Rattle.cxl_commands.proofs.Runs.{came_to, fault_told}
use Rattle.cxl_commands.proofs.Steps.{HasOneReading, fault_step, none_step}
use Rattle.cxl_shell.proofs.files.table_statuses.Goals as goal

one : (c : goal.After-one_reading) → HasOneReading CedtFields CedtFault IsReading IsFaulty
one c = one_table c.one_reading.ensures.one_table c.one_reading.ensures.one_fault c.one_reading.ensures.not_both

pub returns-clause-bad_table : goal.returns-clause-bad_table
returns-clause-bad_table c = lifted _ (λ form old new status run fault is. fault_told old new form fault (came_to old new form status (BadTable fault) run is))
    (λ form old new status behind fault is. absurd (not_early form old new status (BadTable fault) refl behind is))

pub returns-clause-only_bad_table : goal.returns-clause-only_bad_table
returns-clause-only_bad_table c = lifted _ (λ form old new status run file bytes fault asked there faults.
    fault_step old new status CedtFields CedtFault IsReading IsFaulty BadTable (old.files.told file) (AfterTable old new status form) (one c) bytes there fault faults (table_step old new status form file asked run))
    (λ form old new status behind file bytes fault asked there faults.
    fault_step old new status CedtFields CedtFault IsReading IsFaulty BadTable (old.files.told file) (λ table. Unit {0}) (one c) bytes there fault faults (table_behind form old new status behind file asked))

pub returns-clause-no_table : goal.returns-clause-no_table
returns-clause-no_table c = lifted _ (λ form old new status run file bytes asked there within none.
    none_step old new status CedtFields CedtFault IsReading IsFaulty BadTable (old.files.told file) (AfterTable old new status form) (one c) bytes there within (λ table is. none (table, is.spells)) (table_step old new status form file asked run))
    (λ form old new status behind file bytes asked there within none.
    none_step old new status CedtFields CedtFault IsReading IsFaulty BadTable (old.files.told file) (λ table. Unit {0}) (one c) bytes there within (λ table is. none (table, is.spells)) (table_behind form old new status behind file asked))

pub returns-clause-not_both : goal.returns-clause-not_both
returns-clause-not_both c = λ bytes fault faults table. c.one_reading.ensures.not_both bytes table.0 fault table.1 faults.first

pub returns-clause-own_memory : goal.returns-clause-own_memory
returns-clause-own_memory c = lifted _ (λ form old new status run is.
    let told = fault_told old new form Memory (came_to old new form status (BadTable Memory) run is) in
    no_memory told.2.bytes Memory told.2.faulty.first refl)
    (λ form old new status behind is. not_early form old new status (BadTable Memory) refl behind is)
