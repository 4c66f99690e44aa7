use Rattle.cxl_reads.proofs.Parents.{parent_inside}
use Rattle.cxl_reads.proofs.of_topologies.put_who.Goals as goal

pub put_parent-requires : goal.put_parent-requires
put_parent-requires c =
    let tree = c.count-count.ensures.tree in
    parent_inside (record { tree = tree; laws = c.tree_laws.ensures.laws c.args.topo.now.nodes tree }) c.args.i c.args.node.now c.requires
