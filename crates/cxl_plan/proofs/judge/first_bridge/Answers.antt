use Rattle.std.proofs.Common.{◌≡◌, true, false, ◌&&◌, get_or, sym, refl, ◌∙◌, arith, below_more}
use Rattle.std.proofs.lemmas.Bool.{and_parts, and_from}
use Rattle.cxl_topo.specs.Tree.{is_bridge_at}
use Rattle.cxl_legal.specs.Used.{is_used}
use Rattle.cxl_plan.specs.inner.Uses.{tree_alone}
use Rattle.cxl_plan.proofs.UsedItems.{item_inside, item_used, least_item, no_item}
use Rattle.cxl_plan.proofs.judge.first_bridge.Goals as goal

pub node-requires : goal.node-requires
node-requires c = item_inside c.args.topo.now.nodes c.args.request.now c.deref-node-items.result.now (c.deref-node-items.ensures.value ∙ c.requires.listed) c.loop-node.node-index (omega arith)

pub returns-then-is_bridge : goal.returns-then-is_bridge
returns-then-is_bridge c = record {
  first =
      let nodes = c.args.topo.now.nodes in
      let items = c.deref-node-items.result.now in
      let i = c.loop-node.node-index in
      let is = c.deref-node-items.ensures.value ∙ c.requires.listed in
      let here : is_bridge_at nodes (get_or items i 0) ≡ true = rw c.node.ensures (sym c.is_bridge.ensures ∙ c.if-is_bridge.true) in
      least_item nodes c.args.request.now items is (λ n. is_bridge_at nodes n && is_used (tree_alone nodes) c.args.request.now n)
      (λ n both. (and_parts (is_bridge_at nodes n) (is_used (tree_alone nodes) c.args.request.now n) both).1) i (omega arith)
      (λ j below. rw (c.loop-node.invariant j below) refl)
      (and_from (is_bridge_at nodes (get_or items i 0)) (is_used (tree_alone nodes) c.args.request.now (get_or items i 0)) here (item_used nodes c.args.request.now items is i (omega arith)));
  inside = item_inside c.args.topo.now.nodes c.args.request.now c.deref-node-items.result.now (c.deref-node-items.ensures.value ∙ c.requires.listed) c.loop-node.node-index (omega arith);
  used = item_used c.args.topo.now.nodes c.args.request.now c.deref-node-items.result.now (c.deref-node-items.ensures.value ∙ c.requires.listed) c.loop-node.node-index (omega arith);
}

pub returns : goal.returns
returns c = record {
  first =
      let nodes = c.args.topo.now.nodes in
      let items = c.deref-node-items.result.now in
      let is = c.deref-node-items.ensures.value ∙ c.requires.listed in
      no_item nodes c.args.request.now items is (λ n. is_bridge_at nodes n && is_used (tree_alone nodes) c.args.request.now n)
      (λ n both. (and_parts (is_bridge_at nodes n) (is_used (tree_alone nodes) c.args.request.now n) both).1) c.loop-node.node-index (omega arith)
      (λ j below. rw (c.loop-node.invariant j below) refl);
  inside = tt;
  used = tt;
}

pub loop-node-preserved : goal.loop-node-preserved
loop-node-preserved c =
    let here : is_bridge_at c.args.topo.now.nodes (get_or c.deref-node-items.result.now c.loop-node.node-index 0) ≡ false =
    rw c.node.ensures (sym c.is_bridge.ensures ∙ c.if-is_bridge.false) in
    below_more _ _ c.loop-node.invariant here
