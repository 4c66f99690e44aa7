use Rattle.cxl_topo.proofs.PathsUp.{height_of}
use Rattle.cxl_topo.proofs.PathSteps.{IsWay}
use Rattle.cxl_topo.proofs.paths.path_to.Given as goal

abbrev pub invariant-loop-at : goal.invariant-loop-at
invariant-loop-at l = IsWay l.nodes l.i l.at l.len l.room

abbrev pub decreases-loop-at : goal.decreases-loop-at
decreases-loop-at l = height_of l.at
