use Rattle.std.proofs.Common.{arith}
use Rattle.cxl_reads.specs.Tree.{node_line}
use Rattle.cxl_reads.proofs.Steps.{item_line, all_lines}
use Rattle.cxl_reads.proofs.of_topologies.put_nodes.Goals as goal

pub loop-i-preserved : goal.loop-i-preserved
loop-i-preserved c =
    item_line (node_line c.args.topo.now.nodes) c.args.topo.now.nodes c.loop-i.i c.node.result.now _ _ _ c.node.ensures c.loop-i.invariant c.in_ok-put_node.ensures

pub returns : goal.returns
returns c = all_lines (node_line c.args.topo.now.nodes) c.args.topo.now.nodes c.loop-i.i _ _ (omega arith) c.loop-i.invariant
