use Rattle.std.proofs.Common.{not, get_or, sym, ap, ◌∙◌, arith, below_more}
use Rattle.cxl_legal.specs.Windows.{can_have_ways}
use Rattle.cxl_plan.specs.inner.Uses.{tree_alone}
use Rattle.cxl_plan.proofs.UsedItems.{item_inside, item_used, least_item, no_item}
use Rattle.cxl_plan.proofs.Reasons.{ways_tested, without_ways_used}
use Rattle.cxl_plan.proofs.windows.first_without_ways.Goals as goal

pub is_port_or_has_ways-requires-clause-here : goal.is_port_or_has_ways-requires-clause-here
is_port_or_has_ways-requires-clause-here c = item_inside c.args.topo.now.nodes c.args.request.now c.deref-node-items.result.now (c.deref-node-items.ensures.value ∙ c.requires.uses.listed) c.loop-node.node-index (omega arith)

pub returns-then-not-is_port_or_has_ways : goal.returns-then-not-is_port_or_has_ways
returns-then-not-is_port_or_has_ways c =
    let nodes = c.args.topo.now.nodes in
    let request = c.args.request.now in
    let items = c.deref-node-items.result.now in
    let is = c.deref-node-items.ensures.value ∙ c.requires.uses.listed in
    let i = c.loop-node.node-index in
    least_item nodes request items is (λ m. not (can_have_ways (tree_alone nodes) request m)) (without_ways_used nodes request) i (omega arith)
    (λ j below. ap not (sym (ways_tested nodes request (get_or items j 0) (item_used nodes request items is j (omega arith))) ∙ c.loop-node.invariant j below))
    (ap not (sym (ways_tested nodes request (get_or items i 0) (item_used nodes request items is i (omega arith))) ∙ sym c.is_port_or_has_ways.ensures ∙ c.if-not-is_port_or_has_ways.true))

pub returns : goal.returns
returns c =
    let nodes = c.args.topo.now.nodes in
    let request = c.args.request.now in
    let items = c.deref-node-items.result.now in
    let is = c.deref-node-items.ensures.value ∙ c.requires.uses.listed in
    no_item nodes request items is (λ m. not (can_have_ways (tree_alone nodes) request m)) (without_ways_used nodes request) c.loop-node.node-index (omega arith)
    (λ j below. ap not (sym (ways_tested nodes request (get_or items j 0) (item_used nodes request items is j (omega arith))) ∙ c.loop-node.invariant j below))

pub loop-node-preserved : goal.loop-node-preserved
loop-node-preserved c = below_more _ _ c.loop-node.invariant (sym c.is_port_or_has_ways.ensures ∙ c.if-not-is_port_or_has_ways.false)
