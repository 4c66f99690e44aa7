use Rattle.std.proofs.Common.{refl, subst}
use Rattle.cxl_inputs.specs.declared.status.Status.TheVariants.{Done, Refused}
use Rattle.cxl_commands.specs.Form.{Route}
use Rattle.cxl_commands.specs.RunByFiles.{IsRunByFiles}
use Rattle.cxl_commands.specs.commands.Route.{nowhere, no_window}
use Rattle.cxl_commands.proofs.laws.Route.{route_line, refused_by, refusal}
use Rattle.cxl_commands.proofs.Readings.{one_table, knows_table, table_answer_comes}
use Rattle.cxl_commands.proofs.Runs.{came_to}
use Rattle.cxl_commands.proofs.commands.route.route_statuses.Goals as goal

pub returns-clause-route : goal.returns-clause-route
returns-clause-route c = λ form old new status run file h is done.
    route_line old new file h (came_to old new (Route file h) status Done (subst (λ f. IsRunByFiles f old new status) is run) done)

pub returns-clause-refused : goal.returns-clause-refused
returns-clause-refused c = λ form old new status run file h is refused.
    refused_by old new file h (came_to old new (Route file h) status Refused (subst (λ f. IsRunByFiles f old new status) is run) refused)

pub returns-clause-only_refused : goal.returns-clause-only_refused
returns-clause-only_refused c = λ form old new status run file bytes h table is there reading none.
    refusal old new status (table_answer_comes old new status (one_table c.one_reading.ensures.one_table c.one_reading.ensures.one_fault c.one_reading.ensures.not_both) (Route file h) (subst (λ f. IsRunByFiles f old new status) is run) refl table no_window (knows_table old (Route file h) file bytes table refl there reading) (nowhere none refl))

pub returns-clause-routed : goal.returns-clause-routed
returns-clause-routed c = λ form old new status run file bytes h table outcome is there reading routed.
    table_answer_comes old new status (one_table c.one_reading.ensures.one_table c.one_reading.ensures.one_fault c.one_reading.ensures.not_both) (Route file h) (subst (λ f. IsRunByFiles f old new status) is run) refl table outcome (knows_table old (Route file h) file bytes table refl there reading) routed
