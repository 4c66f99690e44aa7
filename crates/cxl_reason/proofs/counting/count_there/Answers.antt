use Rattle.std.proofs.Common.{◌≡◌, ℕ, ◌+◌, Bool, length, filter, sym, ap, ◌∙◌, arith}
use Rattle.std.specs.Prelude.{if◌then◌else◌}
use Rattle.std.specs.List.{range_with_len}
use Rattle.cxl_model.specs.Hosts.{as_system}
use Rattle.cxl_reason.specs.Reasons.{leads_there}
use Rattle.cxl_reason.proofs.Lists.{count_more, count_few}
use Rattle.cxl_reason.proofs.counting.count_there.Goals as goal
use Rattle.cxl_reason.proofs.counting.count_there.Goals.{then-leads_there, else-leads_there}

pub overflow_add-count : goal.overflow_add-count
overflow_add-count c =
    let few = count_few (leads_there (as_system c.args.host.now) c.args.kind c.args.w.now) c.loop-node.node in
    omega (arith, few, c.loop-node.invariant, c.loop-node-test.true, c.loop-node.auto.node-end)

pub loop-node-preserved : goal.loop-node-preserved
loop-node-preserved c =
    let p : ℕ → Bool = leads_there (as_system c.args.host.now) c.args.kind c.args.w.now in
    let more = count_more p c.loop-node.node in
    elim c.if-leads_there.branch [
      | then-leads_there w ↦
          w.count-is ∙ ap (λ (n : ℕ). n + 1) c.loop-node.invariant
          ∙ ap (λ (b : Bool). length (filter p (range_with_len 0 c.loop-node.node)) + (if b then 1 else 0)) (sym (sym c.leads_there.ensures ∙ w.if-leads_there.true)) ∙ sym more
      | else-leads_there w ↦
          w.count-is ∙ c.loop-node.invariant ∙ nothing (length (filter p (range_with_len 0 c.loop-node.node)))
          ∙ ap (λ (b : Bool). length (filter p (range_with_len 0 c.loop-node.node)) + (if b then 1 else 0)) (sym (sym c.leads_there.ensures ∙ w.if-leads_there.false)) ∙ sym more
    ]
  where
    nothing : (n : ℕ) → n ≡ n + 0
    nothing n = omega arith
