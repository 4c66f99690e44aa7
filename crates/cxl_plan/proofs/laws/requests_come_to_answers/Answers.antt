use Rattle.cxl_plan.proofs.Computed.{plan_computed, fault_computed}
use Rattle.cxl_plan.proofs.laws.requests_come_to_answers.Goals as goal

pub returns-clause-plan : goal.returns-clause-plan
returns-clause-plan c = λ s request plan system named fits is.
    plan_computed s request system (c.tree_laws.ensures.laws s.nodes system.tree) named plan fits is

pub returns-clause-fault : goal.returns-clause-fault
returns-clause-fault c = λ s request fault system named is.
    fault_computed s request system (c.tree_laws.ensures.laws s.nodes system.tree) named fault is
