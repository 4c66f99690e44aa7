use Rattle.std.proofs.Common.{◌≡◌, [], ◌&&◌, Bool, true, false, get_or, sym, refl, ◌∙◌, arith, below_more}
use Rattle.std.proofs.lemmas.Bool.{and_parts, and_from}
use Rattle.cxl_span.specs.Allotting.{all_committed}
use Rattle.cxl_model.specs.System.{decoders_at}
use Rattle.cxl_legal.specs.Used.{is_used}
use Rattle.cxl_legal.specs.Endpoints.{lacks_decoder}
use Rattle.cxl_plan.specs.inner.Judging.{without_windows}
use Rattle.cxl_plan.proofs.UsedItems.{item_used, least_item, no_item}
use Rattle.cxl_plan.proofs.judge.first_full.Goals as goal

pub returns-then-is_full : goal.returns-then-is_full
returns-then-is_full c nodes request count uses =
    let s = without_windows nodes c.args.image.now in
    let items = c.deref-node-items.result.now in
    let i = c.loop-node.node-index in
    let is = c.deref-node-items.ensures.value ∙ uses.listed in
    let here : all_committed (decoders_at s (get_or items i 0)) ≡ true = rw c.block.ensures.value (sym c.is_full.ensures ∙ c.if-is_full.true) in
    least_item nodes request items is (lacks_decoder s request) (λ n both. (and_parts (is_used s request n) (all_committed (decoders_at s n)) both).0) i (omega arith)
    (λ j below. rw (c.loop-node.invariant j below) (falls (is_used s request (get_or items j 0))))
    (and_from (is_used s request (get_or items i 0)) (all_committed (decoders_at s (get_or items i 0))) (item_used nodes request items is i (omega arith)) here)
  where
    falls : (b : Bool) → (b && false) ≡ false
    falls true = refl
    falls false = refl

pub returns : goal.returns
returns c nodes request count uses =
    let s = without_windows nodes c.args.image.now in
    let items = c.deref-node-items.result.now in
    let is = c.deref-node-items.ensures.value ∙ uses.listed in
    no_item nodes request items is (lacks_decoder s request) (λ n both. (and_parts (is_used s request n) (all_committed (decoders_at s n)) both).0) c.loop-node.node-index (omega arith)
    (λ j below. rw (c.loop-node.invariant j below) (falls (is_used s request (get_or items j 0))))
  where
    falls : (b : Bool) → (b && false) ≡ false
    falls true = refl
    falls false = refl

pub loop-node-preserved : goal.loop-node-preserved
loop-node-preserved c =
    let here : all_committed (decoders_at (without_windows [] c.args.image.now) (get_or c.deref-node-items.result.now c.loop-node.node-index 0)) ≡ false =
    rw c.block.ensures.value (sym c.is_full.ensures ∙ c.if-is_full.false) in
    below_more _ _ c.loop-node.invariant here
