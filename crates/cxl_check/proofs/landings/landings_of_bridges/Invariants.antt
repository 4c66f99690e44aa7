use Rattle.cxl_check.proofs.Marks.{AreMarked}
use Rattle.cxl_check.proofs.landings.landings_of_bridges.Given as goal

abbrev pub invariant-loop-bridge : goal.invariant-loop-bridge
invariant-loop-bridge l = AreMarked l.topo.nodes l.bridge l.landings.items
