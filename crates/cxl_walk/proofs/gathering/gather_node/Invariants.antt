use Rattle.cxl_model.specs.System.{blocks_alone}
use Rattle.cxl_walk.specs.inner.Gathering.{AreGathered}
use Rattle.cxl_walk.proofs.gathering.gather_node.Given as goal

abbrev pub invariant-loop-index : goal.invariant-loop-index
invariant-loop-index l = AreGathered (blocks_alone l.image) l.founds l.node l.index l.owns.items
