use Rattle.cxl_model.specs.System.{blocks_alone}
use Rattle.cxl_walk.specs.inner.Gathering.{AreGathered}
use Rattle.cxl_walk.proofs.gathering.own_of_each.Given as goal

abbrev pub invariant-loop-node : goal.invariant-loop-node
invariant-loop-node l = AreGathered (blocks_alone l.image) l.founds l.node 0 l.owns.items
