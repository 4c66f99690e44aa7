use Rattle.std.proofs.Common.{sym, ◌∙◌, arith}
use Rattle.cxl_plan.specs.inner.Judging.{uneven_at}
use Rattle.cxl_plan.proofs.UsedItems.{item_inside, item_used, least_item, no_item}
use Rattle.cxl_plan.proofs.UnevenNodes.{uneven_used}
use Rattle.cxl_plan.proofs.judge.first_uneven.Goals as goal

pub is_uneven-requires-clause-here : goal.is_uneven-requires-clause-here
is_uneven-requires-clause-here c = item_inside c.args.topo.now.nodes c.args.request.now c.deref-node-items.result.now (c.deref-node-items.ensures.value ∙ c.requires.listed) c.loop-node.node-index (omega arith)

pub is_uneven-requires-clause-used : goal.is_uneven-requires-clause-used
is_uneven-requires-clause-used c = item_used c.args.topo.now.nodes c.args.request.now c.deref-node-items.result.now (c.deref-node-items.ensures.value ∙ c.requires.listed) c.loop-node.node-index (omega arith)

pub returns-then-is_uneven : goal.returns-then-is_uneven
returns-then-is_uneven c =
    least_item c.args.topo.now.nodes c.args.request.now c.deref-node-items.result.now (c.deref-node-items.ensures.value ∙ c.requires.listed) (uneven_at c.args.topo.now.nodes c.args.request.now)
    (uneven_used c.args.topo.now.nodes c.args.request.now) c.loop-node.node-index (omega arith) c.loop-node.invariant (sym c.is_uneven.ensures ∙ c.if-is_uneven.true)

pub returns : goal.returns
returns c =
    no_item c.args.topo.now.nodes c.args.request.now c.deref-node-items.result.now (c.deref-node-items.ensures.value ∙ c.requires.listed) (uneven_at c.args.topo.now.nodes c.args.request.now)
    (uneven_used c.args.topo.now.nodes c.args.request.now) c.loop-node.node-index (omega arith) c.loop-node.invariant
