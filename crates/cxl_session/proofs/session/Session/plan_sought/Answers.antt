use Rattle.std.proofs.Common.{◌≡◌, Result, sym, ◌∙◌, subst}
use Rattle.cxl_window.specs.Windows.{AreMadeWith}
use Rattle.cxl_model.specs.Accepted.{IsAccepted}
use Rattle.cxl_model.specs.Hosts.{as_system}
use Rattle.cxl_model.specs.System.{System, bridge_uids}
use Rattle.cxl_model.specs.declared.plan.Plan.{Plan}
use Rattle.cxl_reply.specs.declared.reply.Reply.{Reply}
use Rattle.cxl_request.specs.Requests.{AsksForPlan}
use Rattle.cxl_machine.specs.Machine.{Machine}
use Rattle.cxl_session.specs.State.{image_in}
use Rattle.cxl_session.specs.inner.Creating.{IsAskedPlan}
use Rattle.cxl_session.proofs.AskedPlans.{sought, if_ok-map}
use Rattle.cxl_session.proofs.session.Session.plan_sought.Goals as goal

pub asked_plan-requires-clause-made : goal.asked_plan-requires-clause-made
asked_plan-requires-clause-made c = subst (λ (s : System). AreMadeWith s.windows (bridge_uids s.nodes)) (sym c.host.ensures) c.requires.settled.system.made

pub asked_plan-requires-clause-accepted : goal.asked_plan-requires-clause-accepted
asked_plan-requires-clause-accepted c = subst IsAccepted (sym c.host.ensures) c.requires.settled.accepted

pub returns : goal.returns
returns c =
    if_ok-map (AsksForPlan (as_system c.host.result) c.args.create.now)
    (λ (answer : Result Plan Reply). (m : Machine) → m.settled ≡ image_in c.args.self.now → IsAskedPlan m c.args.create.now answer)
    (λ answer asks m same. sought m c.args.create.now (as_system c.host.result) (c.host.ensures ∙ sym same) answer asks) c.asked_plan.result c.asked_plan.ensures.answer
