use Rattle.std.proofs.Common.{◌-◌, length}
use Rattle.cxl_walk.proofs.Ways.{IsOnWay}
use Rattle.cxl_trace.proofs.walking.trace_from.Given as goal

abbrev pub invariant-down : goal.invariant-down
invariant-down l = IsOnWay l.image l.topo l.h l.outset.bridge l.at l.len l.steps

abbrev pub decreases-down : goal.decreases-down
decreases-down l = length l.topo.nodes - l.at
