use Rattle.std.proofs.Common.{◌≡◌, length, arith}
use Rattle.cxl_check.proofs.decoder_facts.all_decoder_facts.Goals as goal

pub returns : goal.returns
returns c =
    let whole : c.loop-node.node ≡ length c.args.host.now.topo.now.nodes = omega (arith, c.count-node-end.ensures.count) in
    rw whole at c.loop-node.invariant
