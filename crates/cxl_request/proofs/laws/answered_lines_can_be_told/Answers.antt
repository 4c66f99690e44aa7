use Rattle.cxl_legal.specs.Used.{HasBytePorts}
use Rattle.cxl_model.specs.Accepted.{IsAccepted}
use Rattle.cxl_model.specs.System.{System, IsSystem}
use Rattle.cxl_request.proofs.Tellings.{Tells, told_plan, told_fault, line_plan, line_refusal}
use Rattle.cxl_request.proofs.laws.answered_lines_can_be_told.Goals as goal

tells : goal.After-answers_hold_of_wants → (s : System) → IsSystem s → HasBytePorts s.nodes → IsAccepted s → Tells s
tells c s system ports accepted = record {
  plan = λ request plan named is.
      let laws = c.answers_hold_of_requests.ensures in
      told_plan s request system (c.tree_laws.ensures.laws s.nodes system.tree) named c.stated_rows_keep_blocks.ensures.system c.findings_are_told.ensures.regions ports accepted plan
      (laws.endpoints s request plan system ports accepted named is) (laws.plan s request plan system ports accepted named is) (laws.legal s request plan system ports accepted named is);
  fault = λ request fault named is.
      told_fault s request system (c.tree_laws.ensures.laws s.nodes system.tree) named fault (c.answers_hold_of_requests.ensures.fault s request fault system ports accepted named is);
  endpoints = λ want set is. c.answers_hold_of_wants.ensures.endpoints s want set system ports is;
  real = c.answers_hold_of_wants.ensures.real s;
}

pub returns-clause-plan : goal.returns-clause-plan
returns-clause-plan c = λ s create plan system ports accepted is. line_plan s create (tells c s system ports accepted) plan is

pub returns-clause-refusal : goal.returns-clause-refusal
returns-clause-refusal c = λ s create refusal system ports accepted is. line_refusal s create (tells c s system ports accepted) refusal is
