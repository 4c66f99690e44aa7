use Rattle.cxl_opening.proofs.Enabling.{HasDecoding}
use Rattle.cxl_opening.proofs.endpoints.enabled.Given as goal

abbrev pub invariant-loop-node : goal.invariant-loop-node
invariant-loop-node l = HasDecoding l.endpoints l.node-index l.initial.image l.image
