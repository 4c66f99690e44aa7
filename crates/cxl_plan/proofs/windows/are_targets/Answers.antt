use Rattle.std.proofs.Common.{◌≡◌, ℕ, not, ◌&&◌, ◌||◌, true, get_or, length, sym, subst, ◌∙◌, inl, inr, arith}
use Rattle.std.proofs.lemmas.Bool.{cases_Bool}
use Rattle.cxl_topo.specs.Tree.{is_bridge_at}
use Rattle.cxl_legal.specs.Used.{is_used}
use Rattle.cxl_legal.specs.Windows.{is_target}
use Rattle.cxl_plan.specs.inner.Uses.{tree_alone}
use Rattle.cxl_plan.proofs.UsedItems.{item_inside, item_used, stands_in}
use Rattle.cxl_plan.proofs.Reasons.{all_fails, all_pass, other_or_target, unused_or_target}
use Rattle.cxl_plan.proofs.windows.are_targets.Goals as goal

pub is_other_or_target-requires : goal.is_other_or_target-requires
is_other_or_target-requires c = item_inside c.args.topo.now.nodes c.args.request.now c.deref-node-items.result.now (c.deref-node-items.ensures.value ∙ c.requires.listed) c.loop-node.node-index (omega arith)

pub returns-then-not-is_other_or_target : goal.returns-then-not-is_other_or_target
returns-then-not-is_other_or_target c =
    let nodes = c.args.topo.now.nodes in
    let request = c.args.request.now in
    let items = c.deref-node-items.result.now in
    let is = c.deref-node-items.ensures.value ∙ c.requires.listed in
    let i = c.loop-node.node-index in
    let n = get_or items i 0 in
    let below = item_inside nodes request items is i (omega arith) in
    sym (all_fails (λ k. not (is_bridge_at nodes k && is_used (tree_alone nodes) request k) || is_target (tree_alone nodes) c.args.w.now k) 0 (length nodes) n (omega arith) (omega arith)
    (other_or_target (is_bridge_at nodes n) (is_target (tree_alone nodes) c.args.w.now n) (is_used (tree_alone nodes) request n) (item_used nodes request items is i (omega arith)) ∙ sym c.is_other_or_target.ensures ∙ c.if-not-is_other_or_target.true))

pub returns : goal.returns
returns c =
    let nodes = c.args.topo.now.nodes in
    let request = c.args.request.now in
    let items = c.deref-node-items.result.now in
    let is = c.deref-node-items.ensures.value ∙ c.requires.listed in
    sym (all_pass (λ k. not (is_bridge_at nodes k && is_used (tree_alone nodes) request k) || is_target (tree_alone nodes) c.args.w.now k) 0 (length nodes)
    (λ n from below.
    elim (cases_Bool (is_used (tree_alone nodes) request n)) [
      | inl used ↦
          let at = stands_in nodes request items is n (omega arith) used in
          let within = at.within in
          other_or_target (is_bridge_at nodes n) (is_target (tree_alone nodes) c.args.w.now n) (is_used (tree_alone nodes) request n) used
          ∙ subst (λ (m : ℕ). (not (is_bridge_at nodes m) || is_target (tree_alone nodes) c.args.w.now m) ≡ true) at.here (c.loop-node.invariant at.place (omega arith))
      | inr not_used ↦ unused_or_target (is_bridge_at nodes n) (is_target (tree_alone nodes) c.args.w.now n) (is_used (tree_alone nodes) request n) not_used
    ]))
