use Rattle.cxl_opening.proofs.Enabling.{HasEnabled}
use Rattle.cxl_opening.proofs.endpoints.enable_endpoints.Given as goal

abbrev pub invariant-loop-node : goal.invariant-loop-node
invariant-loop-node g l = HasEnabled l.endpoints l.node-index (g.R.Regs.state l.fn.regs) (g.R.Regs.state l.regs)
