use Rattle.cxl_model.specs.Hosts.{as_system}
use Rattle.cxl_plan.proofs.StatedSpans.{AreStatedBelow}
use Rattle.cxl_plan.proofs.spans.places.Given as goal

abbrev pub invariant-loop-slot : goal.invariant-loop-slot
invariant-loop-slot l = AreStatedBelow (as_system l.host) l.request l.w l.slot l.places.items
