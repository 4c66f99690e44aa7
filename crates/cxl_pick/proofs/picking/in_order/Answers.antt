use Rattle.std.proofs.Common.{◌≡◌, ℕ, Vec, Global, sym, ap, ◌∙◌, subst, arith}
use Rattle.std.specs.Prelude.{filter}
use Rattle.std.specs.List.{range_with_len}
use Rattle.cxl_enc.proofs.Lists.{is_in}
use Rattle.cxl_pick.specs.Picking.{AreInOrder}
use Rattle.cxl_pick.proofs.Givings.{node_in, node_out, are_in_order}
use Rattle.cxl_pick.proofs.picking.in_order.Goals as goal
use Rattle.cxl_pick.proofs.picking.in_order.Goals.{then-is_given+in_ok-push, else-is_given}

pub loop-node-preserved : goal.loop-node-preserved
loop-node-preserved c =
    elim c.if-is_given.branch [
      | then-is_given+in_ok-push w ↦
          ap (λ (v : Vec ℕ Global). v.items) w.set-is ∙ w.in_ok-push.ensures.items
          ∙ node_in (λ n. is_in n c.args.given.now) c.loop-node.node c.loop-node.set.items c.loop-node.invariant (sym c.is_given.ensures ∙ w.if-is_given.true)
      | else-is_given w ↦
          ap (λ (v : Vec ℕ Global). v.items) w.set-is
          ∙ node_out (λ n. is_in n c.args.given.now) c.loop-node.node c.loop-node.set.items c.loop-node.invariant (sym c.is_given.ensures ∙ w.if-is_given.false)
    ]

pub returns : goal.returns
returns c =
    let most = c.loop-node.auto.node-end in
    let least = c.loop-node-test.false in
    let end : c.loop-node.node ≡ c.args.count = omega (arith, most, least) in
    let is = c.loop-node.invariant ∙ ap (λ (n : ℕ). filter (λ k. is_in k c.args.given.now) (range_with_len 0 n)) end in
    subst (AreInOrder c.args.given.now) (sym is) (are_in_order c.args.count c.args.given.now c.requires)
