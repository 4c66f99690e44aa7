use Rattle.std.proofs.Common.{get_or, sym, ◌∙◌, arith}
use Rattle.cxl_plan.proofs.UsedItems.{item_inside, item_used}
use Rattle.cxl_plan.proofs.choosing.used_uid.Goals as goal

pub bridge_uid-requires : goal.bridge_uid-requires
bridge_uid-requires c = item_inside c.args.topo.now.nodes c.args.request.now c.deref-node-items.result.now (c.deref-node-items.ensures.value ∙ c.requires.listed) c.loop-node.node-index (omega arith)

pub returns-in-Some : goal.returns-in-Some
returns-in-Some c =
    let nodes = c.args.topo.now.nodes in
    let items = c.deref-node-items.result.now in
    let is = c.deref-node-items.ensures.value ∙ c.requires.listed in
    let i = c.loop-node.node-index in
    record {
      node = get_or items i 0;
      inside = item_inside nodes c.args.request.now items is i (omega arith);
      bridge = c.in-Some.ensures.bridge;
      used = item_used nodes c.args.request.now items is i (omega arith);
      own = sym c.in-Some.ensures.uid;
    }
