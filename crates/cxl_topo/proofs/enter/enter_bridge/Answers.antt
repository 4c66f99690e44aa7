use Rattle.std.specs.Ordering.{nat_cmp}
use Rattle.std.proofs.lemmas.Result.{on_ok_weaker}
use Rattle.cxl_topo.specs.Tree.{is_bridge_with}
use Rattle.cxl_topo.proofs.Entering.{entered, is_bridge_with-own}
use Rattle.cxl_topo.proofs.enter.enter_bridge.Goals as goal

pub returns-in-Bridge : goal.returns-in-Bridge
returns-in-Bridge c =
    let nodes = c.args.nodes.now in
    let node = c.index-nodes-i in
    on_ok_weaker c.enter_first.result (entered nat_cmp is_bridge_with nodes c.args.i node.result c.requires.below node.is c.args.table.now c.enter_first.new.table c.in-Bridge.uid c.requires.listed (is_bridge_with-own node.result c.in-Bridge.uid c.in-Bridge.is)) c.enter_first.ensures
