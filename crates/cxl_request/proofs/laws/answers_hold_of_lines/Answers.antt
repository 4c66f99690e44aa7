use Rattle.cxl_legal.specs.Used.{HasBytePorts}
use Rattle.cxl_model.specs.Accepted.{IsAccepted}
use Rattle.cxl_model.specs.System.{System, IsSystem}
use Rattle.cxl_request.proofs.Lines.{Known, PicksPlan, some_legal, plan_for, refusal_of}
use Rattle.cxl_request.proofs.laws.answers_hold_of_lines.Goals as goal

known : goal.After-plans_go_by_any_name → (s : System) → IsSystem s → HasBytePorts s.nodes → IsAccepted s → Known s
known c s system ports accepted = record {
  plans = λ request plan named is. record {
    legal = c.answers_hold_of_requests.ensures.legal s request plan system ports accepted named is;
    first = c.answers_hold_of_requests.ensures.plan s request plan system ports accepted named is;
    least = c.answers_hold_of_requests.ensures.least s request plan system ports accepted named is;
  };
  first = λ request fault named is. c.answers_hold_of_requests.ensures.fault s request fault system ports accepted named is;
  none = λ request fault named is. c.answers_hold_of_requests.ensures.none s request fault system ports accepted named is;
  endpoints = λ want set is. c.answers_hold_of_wants.ensures.endpoints s want set system ports is;
  window = λ want set is. c.answers_hold_of_wants.ensures.set s want set system is;
  one = c.picked_sets_have_plans.ensures.window s;
  fault = λ want fault is. c.answers_hold_of_wants.ensures.fault s want fault system is;
  real = c.answers_hold_of_wants.ensures.real s;
  nothing = λ want fault is. c.picked_sets_have_plans.ensures.none s want fault system ports accepted is;
  any_name = c.plans_go_by_any_name.ensures;
}

picks_plan : goal.After-plans_go_by_any_name → (s : System) → IsSystem s → HasBytePorts s.nodes → IsAccepted s → PicksPlan s
picks_plan c s system ports accepted = λ want w set code at is.
    c.picked_sets_have_plans.ensures.first s want w set system ports accepted code at is

pub returns-clause-legal : goal.returns-clause-legal
returns-clause-legal c = λ s create plan system ports accepted is. some_legal s create (known c s system ports accepted) plan is

pub returns-clause-plan : goal.returns-clause-plan
returns-clause-plan c = λ s create plan system ports accepted codes is.
    plan_for s create (known c s system ports accepted) (picks_plan c s system ports accepted) codes plan is

pub returns-clause-refusal : goal.returns-clause-refusal
returns-clause-refusal c = λ s create refusal system ports accepted codes is.
    refusal_of s create (known c s system ports accepted) (picks_plan c s system ports accepted) codes refusal is
