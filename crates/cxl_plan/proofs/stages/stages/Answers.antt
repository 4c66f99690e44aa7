use Rattle.std.proofs.Common.{◌≡◌, ℕ, List, length, get_or, ap, subst, ◌∙◌, arith}
use Rattle.cxl_plan.specs.declared.stages.Stage.{Stage}
use Rattle.cxl_plan.specs.inner.Stages.{stage_at, AreStages}
use Rattle.cxl_plan.proofs.Tables.{each_more, length_end}
use Rattle.cxl_plan.proofs.UsedItems.{item_inside, item_used}
use Rattle.cxl_plan.proofs.stages.stages.Goals as goal

pub stage_of-requires-clause-here : goal.stage_of-requires-clause-here
stage_of-requires-clause-here c = item_inside c.args.topo.now.nodes c.args.request.now c.deref-node-items.result.now (c.deref-node-items.ensures.value ∙ c.requires.uses.listed) c.loop-node.node-index (omega arith)

pub stage_of-requires-clause-used : goal.stage_of-requires-clause-used
stage_of-requires-clause-used c = item_used c.args.topo.now.nodes c.args.request.now c.deref-node-items.result.now (c.deref-node-items.ensures.value ∙ c.requires.uses.listed) c.loop-node.node-index (omega arith)

pub loop-node-preserved : goal.loop-node-preserved
loop-node-preserved c =
    let items : List ℕ = c.deref-node-items.result.now in
    let own : Stage = c.stage_of.result in
    let longer = ap length c.in_ok-push.ensures.items ∙ length_end c.loop-node.stages.items own in
    let before = c.loop-node.invariant.0 in (
      omega (arith, longer, before),
      each_more (λ k (stage : Stage). stage ≡ stage_at c.args.topo.now.nodes c.args.request.now (get_or items k 0)) c.loop-node.stages.items c.push.new.self.items c.loop-node.node-index own before c.loop-node.invariant.1 c.in_ok-push.ensures.items c.stage_of.ensures,
    )

pub returns : goal.returns
returns c =
    let items : List ℕ = c.deref-node-items.result.now in
    let before = c.loop-node.invariant.0 in
    subst (λ (xs : List ℕ). AreStages c.args.topo.now.nodes c.args.request.now xs c.loop-node.stages.items) c.deref-node-items.ensures.value
    (record { count = omega (arith, before); each = c.loop-node.invariant.1 })
