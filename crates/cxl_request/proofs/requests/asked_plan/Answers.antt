use Rattle.cxl_model.specs.Hosts.{as_system}
use Rattle.cxl_model.specs.System.{System}
use Rattle.cxl_reply.specs.Plans.{IsToldPlan}
use Rattle.cxl_reply.specs.Conditions.{IsTold}
use Rattle.cxl_request.proofs.Lines.{where_plan, where_refusal}
use Rattle.cxl_request.proofs.requests.asked_plan.Goals as goal

pub returns-clause-told : goal.returns-clause-told
returns-clause-told c =
    let s : System = as_system c.args.host.now in
    where_plan s c.args.create.now (IsToldPlan s.nodes)
    (λ plan is. c.answered_lines_can_be_told.ensures.plan s c.args.create.now plan c.accepted_image_is_system.ensures c.ports_are_bytes.ensures c.requires.accepted is)
    c.plan_of_line.result c.plan_of_line.ensures

pub returns-clause-reply : goal.returns-clause-reply
returns-clause-reply c =
    let s : System = as_system c.args.host.now in
    where_refusal s c.args.create.now (IsTold s.nodes)
    (λ refusal is. c.answered_lines_can_be_told.ensures.refusal s c.args.create.now refusal c.accepted_image_is_system.ensures c.ports_are_bytes.ensures c.requires.accepted is)
    c.plan_of_line.result c.plan_of_line.ensures
