use Rattle.cxl_walk.proofs.Marks.{AreMarkedTo}
use Rattle.cxl_walk.proofs.marking.marked_ways.Given as goal

abbrev pub invariant-loop-place : goal.invariant-loop-place
invariant-loop-place l = AreMarkedTo l.topo.nodes l.spans l.place-index l.marks.items
