use Rattle.cxl_reads.specs.Tree.{IsTreeTold}
use Rattle.cxl_reads.proofs.Endings.{answered}
use Rattle.cxl_reads.proofs.of_topologies.tree.Goals as goal

pub returns-clause-answer : goal.returns-clause-answer
returns-clause-answer g c =
    answered (IsTreeTold c.args.topo.now) c.tree_told.result c.finish.result _ _ c.tree_told.ensures c.finish.ensures.finishes
