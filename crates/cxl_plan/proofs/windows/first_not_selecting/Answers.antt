use Rattle.std.proofs.Common.{◌≡◌, ℕ, List, Some, length, get_or, not, sym, ap, ◌∙◌, inl, inr, arith}
use Rattle.std.proofs.lemmas.Bool.{cases_eq}
use Rattle.std.proofs.lemmas.Option.{slice_get-get_or}
use Rattle.cxl_plan.specs.inner.Judging.{selects_at}
use Rattle.cxl_plan.proofs.UsedItems.{item_used, least_item, no_item}
use Rattle.cxl_plan.proofs.Reasons.{not_selecting_used}
use Rattle.cxl_plan.proofs.windows.first_not_selecting.Goals as goal

pub bounds-stages-place : goal.bounds-stages-place
bounds-stages-place c =
    let long = ap length c.as_slice-nodes.ensures.value in
    let count = c.requires.stages.count in
    omega (arith, long, count, c.loop-place-test.true)

pub loop-place-preserved : goal.loop-place-preserved
loop-place-preserved c k below =
    let nodes = c.args.topo.now.nodes in
    let items : List ℕ = c.args.uses.now.nodes.items in
    let i : ℕ = c.loop-place.place in
    let long = ap length c.as_slice-nodes.ensures.value in
    let count = c.requires.stages.count in
    let here : c.can_select.result ≡ selects_at nodes c.args.request.now c.args.w.now (get_or items i 0) =
    c.can_select.ensures nodes (get_or items i 0) (item_used nodes c.args.request.now items c.requires.uses.listed i (omega (arith, long, c.loop-place-test.true)))
    (c.requires.stages.each i _ (slice_get-get_or c.args.stages.now i _ (omega (arith, long, count, c.loop-place-test.true)))) in
    elim (cases_eq k i) [
      | inl same ↦ ap (λ (m : ℕ). selects_at nodes c.args.request.now c.args.w.now (get_or items m 0)) same ∙ sym here ∙ c.if-not-can_select.false
      | inr other ↦ c.loop-place.invariant k (omega (arith, below, other))
    ]

pub returns-then-not-can_select : goal.returns-then-not-can_select
returns-then-not-can_select c =
    let nodes = c.args.topo.now.nodes in
    let items : List ℕ = c.args.uses.now.nodes.items in
    let i : ℕ = c.loop-place.place in
    let long = ap length c.as_slice-nodes.ensures.value in
    let count = c.requires.stages.count in
    let here : c.can_select.result ≡ selects_at nodes c.args.request.now c.args.w.now (get_or items i 0) =
    c.can_select.ensures nodes (get_or items i 0) (item_used nodes c.args.request.now items c.requires.uses.listed i (omega (arith, long, c.loop-place-test.true)))
    (c.requires.stages.each i _ (slice_get-get_or c.args.stages.now i _ (omega (arith, long, count, c.loop-place-test.true)))) in
    ap (λ (xs : List ℕ). Some (get_or xs i 0)) c.as_slice-nodes.ensures.value
    ∙ least_item nodes c.args.request.now items c.requires.uses.listed (λ m. not (selects_at nodes c.args.request.now c.args.w.now m)) (not_selecting_used nodes c.args.request.now c.args.w.now) i
    (omega (arith, long, c.loop-place-test.true)) (λ j below. ap not (c.loop-place.invariant j below)) (ap not (sym here ∙ c.if-not-can_select.true))

pub returns : goal.returns
returns c =
    let items : List ℕ = c.args.uses.now.nodes.items in
    let long = ap length c.as_slice-nodes.ensures.value in
    no_item c.args.topo.now.nodes c.args.request.now items c.requires.uses.listed (λ m. not (selects_at c.args.topo.now.nodes c.args.request.now c.args.w.now m))
    (not_selecting_used c.args.topo.now.nodes c.args.request.now c.args.w.now) c.loop-place.place (omega (arith, long, c.loop-place-test.false)) (λ j below. ap not (c.loop-place.invariant j below))
