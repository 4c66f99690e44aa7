use Rattle.std.proofs.Common.{ℕ, List, below_more, sym, ap, ◌∙◌, arith}
use Rattle.std.proofs.lemmas.Bool.{false≢true}
use Rattle.std.proofs.lemmas.List.{get_or-map, length-map}
use Rattle.cxl_media.specs.Blocks.{Key}
use Rattle.cxl_media.specs.MapInside.{item_of, items_of}
use Rattle.cxl_media.proofs.Keys.{find_nowhere}
use Rattle.cxl_media.proofs.map_media.index_of_block.Goals as goal

pub returns-clause-none : goal.returns-clause-none
returns-clause-none c =
    find_nowhere (c.args.ep, c.args.number) (items_of c.args.blocks.now) (λ k d within.
    c.loop-at.invariant k (omega (arith, length-map c.args.blocks.now item_of)) d)

pub loop-at-preserved : goal.loop-at-preserved
loop-at-preserved c =
    below_more _ _ c.loop-at.invariant (λ d same.
    let read = get_or-map item_of c.args.blocks.now c.loop-at.at _ d c.loop-at-test.true in
    let key = sym (ap (λ (e : Key × List ℕ). e.0) read) ∙ same in
    false≢true (sym c.if-is_at.false ∙ c.is_at.ensures.1 (ap (λ (k : Key). k.0) key, ap (λ (k : Key). k.1) key)))
