use Rattle.std.proofs.Common.{subst}
use Rattle.cxl_inputs.specs.ResetHost.{reset_host_of}
use Rattle.cxl_inputs.specs.declared.status.Status.TheVariants.{Done, Refused}
use Rattle.cxl_model.specs.System.{System}
use Rattle.cxl_script.specs.declared.command.Create.{Create}
use Rattle.cxl_commands.specs.Form.{Plan}
use Rattle.cxl_commands.specs.Readings.{ByTree, AreKnown}
use Rattle.cxl_commands.specs.RunByFiles.{IsRunByFiles}
use Rattle.cxl_commands.proofs.laws.Plan.{LineLaws, plan_written, refusal_written, plan_comes, refusal_comes}
use Rattle.cxl_commands.proofs.Readings.{HaveOneReading, one_table, one_topology, one_image, answer_comes}
use Rattle.cxl_commands.proofs.Runs.{came_to}
use Rattle.cxl_commands.proofs.commands.plan.plan_statuses.Goals as goal

have : (c : goal.After-lines_have_a_plan_or_none) → HaveOneReading
have c = record {
  of_table = one_table c.one_reading.ensures.one_table c.one_reading.ensures.one_fault c.one_reading.ensures.not_both;
  of_tree = one_topology c.one_topology_reading.ensures.one_tree c.one_topology_reading.ensures.one_fault c.one_topology_reading.ensures.not_both;
  of_image = one_image c.one_image_reading.ensures.one_image c.one_image_reading.ensures.one_fault c.one_image_reading.ensures.not_both;
}

line_laws : (c : goal.After-lines_have_a_plan_or_none) → (s : System) (create : Create) → LineLaws s create
line_laws c s create = record {
  plan = c.lines_have_a_plan_or_none.ensures.plan s create;
  refusal = c.lines_have_a_plan_or_none.ensures.refusal s create;
  one = c.lines_have_a_plan_or_none.ensures.one s create;
}

pub returns-clause-planned : goal.returns-clause-planned
returns-clause-planned c = λ form old new status run cedt topo create is done.
    plan_written old new cedt topo create (came_to old new (Plan cedt topo create) status Done (subst (λ f. IsRunByFiles f old new status) is run) done)

pub returns-clause-refused : goal.returns-clause-refused
returns-clause-refused c = λ form old new status run cedt topo create is refused.
    refusal_written old new cedt topo create (came_to old new (Plan cedt topo create) status Refused (subst (λ f. IsRunByFiles f old new status) is run) refused)

pub returns-clause-only_planned : goal.returns-clause-only_planned
returns-clause-only_planned c = λ form old new status run cedt topo create table tree is known has.
    plan_comes old new status (reset_host_of table tree) create (line_laws c (reset_host_of table tree) create) has
    (answer_comes old new status (have c) (Plan cedt topo create) (subst (λ f. IsRunByFiles f old new status) is run) (ByTree table tree) (subst (λ f. AreKnown f old.files.told (ByTree table tree)) is known))

pub returns-clause-only_refused : goal.returns-clause-only_refused
returns-clause-only_refused c = λ form old new status run cedt topo create table tree is known none.
    refusal_comes old new status (reset_host_of table tree) create (line_laws c (reset_host_of table tree) create) none
    (answer_comes old new status (have c) (Plan cedt topo create) (subst (λ f. IsRunByFiles f old new status) is run) (ByTree table tree) (subst (λ f. AreKnown f old.files.told (ByTree table tree)) is known))
