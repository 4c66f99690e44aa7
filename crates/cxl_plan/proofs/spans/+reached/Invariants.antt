use Rattle.std.proofs.Common.{◌-◌, length}
use Rattle.cxl_plan.proofs.spans.+reached.Given as goal

abbrev pub decreases-reached : goal.decreases-reached
decreases-reached l = length l.topo.now.nodes - l.node
