use Rattle.cxl_check.specs.inner.Children.{AreEntered}
use Rattle.cxl_check.proofs.children.all_children.Given as goal

abbrev pub invariant-loop-node : goal.invariant-loop-node
invariant-loop-node l = AreEntered l.topo.nodes l.node l.children.items
