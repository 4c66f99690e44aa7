use Rattle.cxl_topo.proofs.PathsUp.{height_of}
use Rattle.cxl_topo.proofs.Decoding.{IsAbove}
use Rattle.cxl_topo.proofs.paths.decoding_port.Given as goal

abbrev pub invariant-loop-at : goal.invariant-loop-at
invariant-loop-at l = IsAbove l.nodes l.i l.at

abbrev pub decreases-loop-at : goal.decreases-loop-at
decreases-loop-at l = height_of l.at
