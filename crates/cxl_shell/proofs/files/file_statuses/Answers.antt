use Rattle.std.proofs.Common.{◌≡◌, ◌⊎◌, refl, subst, inl, inr}
use Rattle.cxl_table.specs.CedtFields.{CedtFields}
use Rattle.cxl_cedt.specs.declared.fault.CedtFault.{CedtFault}
use Rattle.cxl_inputs.specs.Table.{IsReading, IsFaulty}
use Rattle.cxl_inputs.specs.declared.status.Status.{Status}
use Rattle.cxl_inputs.specs.declared.status.Status.TheVariants.{Done, FetchFault, BadTable, Refused, TooLarge}
use Rattle.cxl_io.specs.Fetch.{AsksFor}
use Rattle.cxl_commands.specs.Form.{Form, own_files}
use Rattle.cxl_commands.specs.Outside.{Outside}
use Rattle.cxl_commands.specs.RunByFiles.{IsRunByFiles}
use Rattle.cxl_shell.proofs.Behind.{table_behind, some_behind}
use Rattle.cxl_shell.proofs.Forms.{first_file}
use Rattle.cxl_shell.proofs.Lifted.{lifted, not_early}
use Rattle.cxl_commands.proofs.Readings.{one_table, AfterTable, table_step}
use Rattle.cxl_commands.proofs.Runs.{came_to, some_asked, one_asked, done_asked, refused_asked, fetch_failed, large_told}
use Rattle.cxl_commands.proofs.Steps.{HasOneReading, absent_step, large_step}
use Rattle.cxl_shell.proofs.files.file_statuses.Goals as goal

all_asked : (old new : Outside) (form : Form) (status : Status) → IsRunByFiles form old new status → (status ≡ Done) ⊎ (status ≡ Refused) → AsksFor old.files new.files (own_files form)
all_asked old new form status run (inl done) = done_asked old new form (came_to old new form status Done run done)
all_asked old new form status run (inr refused) = refused_asked old new form (came_to old new form status Refused run refused)

one : (c : goal.After-one_reading) → HasOneReading CedtFields CedtFault IsReading IsFaulty
one c = one_table c.one_reading.ensures.one_table c.one_reading.ensures.one_fault c.one_reading.ensures.not_both

pub returns-clause-asked : goal.returns-clause-asked
returns-clause-asked c = lifted _ (λ form old new status run. some_asked old new form status run) (λ form old new status behind. some_behind form old new status behind)

pub returns-clause-all_asked : goal.returns-clause-all_asked
returns-clause-all_asked c = lifted _ (λ form old new status run is. all_asked old new form status run is) (λ form old new status behind is. behind.asks)

pub returns-clause-one_asked : goal.returns-clause-one_asked
returns-clause-one_asked c = lifted _ (λ form old new status run file own other. one_asked old new form file status own run other)
    (λ form old new status behind file own other. subst (AsksFor old.files new.files) own behind.asks)

pub returns-clause-fetch_fault : goal.returns-clause-fetch_fault
returns-clause-fetch_fault c = lifted _ (λ form old new status run is. fetch_failed old new form (came_to old new form status FetchFault run is))
    (λ form old new status behind is. absurd (not_early form old new status FetchFault refl behind is))

pub returns-clause-absent : goal.returns-clause-absent
returns-clause-absent c = lifted _ (λ form old new status run file others own absent.
    absent_step old new status CedtFields CedtFault IsReading IsFaulty BadTable (old.files.told file) (AfterTable old new status form) absent (table_step old new status form file (first_file form file others own) run))
    (λ form old new status behind file others own absent.
    absent_step old new status CedtFields CedtFault IsReading IsFaulty BadTable (old.files.told file) (λ table. Unit {0}) absent (table_behind form old new status behind file (first_file form file others own)))

pub returns-clause-too_large : goal.returns-clause-too_large
returns-clause-too_large c = lifted _ (λ form old new status run is. large_told old new form (came_to old new form status TooLarge run is))
    (λ form old new status behind is. absurd (not_early form old new status TooLarge refl behind is))

pub returns-clause-only_too_large : goal.returns-clause-only_too_large
returns-clause-only_too_large c = lifted _ (λ form old new status run file bytes others own there many.
    large_step old new status CedtFields CedtFault IsReading IsFaulty BadTable (old.files.told file) (AfterTable old new status form) (one c) bytes there many (table_step old new status form file (first_file form file others own) run))
    (λ form old new status behind file bytes others own there many.
    large_step old new status CedtFields CedtFault IsReading IsFaulty BadTable (old.files.told file) (λ table. Unit {0}) (one c) bytes there many (table_behind form old new status behind file (first_file form file others own)))
