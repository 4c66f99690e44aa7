use Rattle.cxl_model.specs.Hosts.{as_system}
use Rattle.cxl_model.specs.Accepted.{breaks_block}
use Rattle.cxl_check.proofs.blocks.blocks_breach.Goals as goal

pub loop-node-preserved : goal.loop-node-preserved
loop-node-preserved c =
    c.earlier_among_nodes-first.ensures (breaks_block (as_system c.args.host.now)) c.loop-node.invariant c.node_breach-found.ensures
