use Rattle.std.proofs.Common.{Ok, subst}
use Rattle.cxl_model.specs.declared.plan.PlanFault.{PlanFault}
use Rattle.cxl_plan.specs.Faults.{SaysOfRequest}
use Rattle.cxl_plan.proofs.LegalAnswers.{legal_answer, least_answer, no_plan}
use Rattle.cxl_plan.proofs.ComputedAnswers.{told_plan, told_fault}
use Rattle.cxl_plan.proofs.laws.answers_hold_of_requests.Goals as goal

pub returns-clause-endpoints : goal.returns-clause-endpoints
returns-clause-endpoints c = λ s request plan system ports accepted named is.
    (told_plan s request system (c.tree_laws.ensures.laws s.nodes system.tree) ports accepted named c.fitting_plans_are_legal.ensures.there plan is).0

pub returns-clause-plan : goal.returns-clause-plan
returns-clause-plan c = λ s request plan system ports accepted named is.
    (told_plan s request system (c.tree_laws.ensures.laws s.nodes system.tree) ports accepted named c.fitting_plans_are_legal.ensures.there plan is).1

pub returns-clause-legal : goal.returns-clause-legal
returns-clause-legal c = λ s request plan system ports accepted named is.
    let told = told_plan s request system (c.tree_laws.ensures.laws s.nodes system.tree) ports accepted named c.fitting_plans_are_legal.ensures.there plan is in
    legal_answer s request system ports accepted named c.fitting_plans_are_legal.ensures.legal (Ok plan) told.0 told.1

pub returns-clause-least : goal.returns-clause-least
returns-clause-least c = λ s request plan system ports accepted named is.
    let told = told_plan s request system (c.tree_laws.ensures.laws s.nodes system.tree) ports accepted named c.fitting_plans_are_legal.ensures.there plan is in
    let laws = c.legal_plans_fit.ensures in
    least_answer s request system ports accepted named laws.endpoints laws.window laws.base (Ok plan) told.1

pub returns-clause-fault : goal.returns-clause-fault
returns-clause-fault c = λ s request fault system ports accepted named is.
    told_fault s request system (c.tree_laws.ensures.laws s.nodes system.tree) ports accepted named c.fitting_plans_are_legal.ensures.there fault is

pub returns-clause-none : goal.returns-clause-none
returns-clause-none c = λ s request fault system ports accepted named is plan legal.
    let told = told_fault s request system (c.tree_laws.ensures.laws s.nodes system.tree) ports accepted named c.fitting_plans_are_legal.ensures.there fault is in
    let laws = c.legal_plans_fit.ensures in
    no_plan s request system ports accepted named laws.endpoints laws.window laws.base fault (λ memory. subst (λ (f : PlanFault). SaysOfRequest s request f) memory told.holds) told plan legal
