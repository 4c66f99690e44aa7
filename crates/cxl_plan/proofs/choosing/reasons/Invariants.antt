use Rattle.cxl_model.specs.Hosts.{as_system}
use Rattle.cxl_plan.proofs.Choices.{AreReasonsBelow}
use Rattle.cxl_plan.proofs.choosing.reasons.Given as goal

abbrev pub invariant-loop-w : goal.invariant-loop-w
invariant-loop-w l = AreReasonsBelow (as_system l.host) l.request l.w-index l.reasons.items
