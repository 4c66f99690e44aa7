use Rattle.std.proofs.Common.{refl, Err}
use Rattle.cxl_model.specs.declared.plan.PlanFault.TheVariants as faults
use Rattle.cxl_pick.specs.Picking.{gives_within}
use Rattle.cxl_reply.specs.declared.reply.Reply.TheVariants as replies
use Rattle.cxl_worked_machines.specs.Examples.{r0, b, hb0}
use Rattle.cxl_worked_machines.proofs.examples.refused_creates_on_examples.Goals as goal

pub returns-clause-busy : goal.returns-clause-busy
returns-clause-busy c = (Err (replies.Busy b), refl, record { unfailing = refl; told = refl })

pub returns-clause-name_taken : goal.returns-clause-name_taken
returns-clause-name_taken c = (Err (replies.NameTaken r0), refl, record { unfailing = refl; told = refl })

pub returns-clause-no_endpoint : goal.returns-clause-no_endpoint
returns-clause-no_endpoint c = (Err (replies.NoEndpoint hb0), refl, record { unfailing = refl; told = refl })

pub returns-clause-full : goal.returns-clause-full
returns-clause-full c = (Err replies.RegionsFull, refl, record { unfailing = refl; told = refl })

pub returns-clause-plan_fault : goal.returns-clause-plan_fault
returns-clause-plan_fault c = (Err (replies.Refused faults.Size), (Err (replies.Refused faults.Size), refl, refl), record { unfailing = refl; told = refl })

pub returns-clause-pick_ways : goal.returns-clause-pick_ways
returns-clause-pick_ways c = (Err (replies.Refused (faults.Ways 5)), (Err (replies.Refused (faults.Ways 5)), refl, refl), record { unfailing = refl; told = refl })

pub returns-clause-pick_size : goal.returns-clause-pick_size
returns-clause-pick_size c = (Err (replies.Refused faults.Size), (Err (replies.Refused faults.Size), refl, refl), record { unfailing = refl; told = refl })

pub returns-clause-no_set : goal.returns-clause-no_set
unfolding gives_within
returns-clause-no_set c = (Err replies.NoSet, (Err replies.NoSet, refl, refl), record { unfailing = refl; told = refl })
