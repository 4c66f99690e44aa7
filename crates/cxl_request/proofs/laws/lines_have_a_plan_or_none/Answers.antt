use Rattle.cxl_request.proofs.Lines.{has_plan, has_no_plan, not_both_ways}
use Rattle.cxl_request.proofs.laws.lines_have_a_plan_or_none.Goals as goal

pub returns-clause-plan : goal.returns-clause-plan
returns-clause-plan c = λ s create plan for. has_plan s create plan for

pub returns-clause-refusal : goal.returns-clause-refusal
returns-clause-refusal c = λ s create refusal is. has_no_plan s create refusal is

pub returns-clause-one : goal.returns-clause-one
returns-clause-one c = λ s create has none. not_both_ways s create has none
