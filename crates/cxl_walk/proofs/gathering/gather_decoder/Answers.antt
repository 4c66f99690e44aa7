use Rattle.std.proofs.Common.{◌≡◌, ℕ, length, Some, refl, subst, ◌∙◌, arith}
use Rattle.std.specs.Prelude.{slice_get}
use Rattle.std.proofs.lemmas.Option.{slice_get_read, slice_get_within}
use Rattle.cxl_regs.specs.declared.reading.Range.{Range}
use Rattle.cxl_model.specs.declared.found.Found.{Found}
use Rattle.cxl_model.specs.Regions.{region_range}
use Rattle.cxl_walk.proofs.RegionLists.{no_region, none_here, not_committed, one_here}
use Rattle.cxl_walk.proofs.gathering.gather_decoder.Goals as goal

pub returns-then-not-d : goal.returns-then-not-d
returns-then-not-d c =
    none_here c.args.image.now c.args.founds.now c.args.node c.args.index c.args.d.now c.args.owns.now.items c.requires.there
    (λ k found at. not_committed (region_range found) c.args.d.now c.if-not-d.true)
    c.requires.before

pub returns-in_default : goal.returns-in_default
returns-in_default c =
    none_here c.args.image.now c.args.founds.now c.args.node c.args.index c.args.d.now c.args.owns.now.items c.requires.there
    (λ k found at. no_region c.args.founds.now c.args.d.now (subst (λ (r : Range). (k : ℕ) (found : Found) → slice_get c.args.founds.now k ≡ Some found → region_range found ≡ r → ⊥) c.range.ensures c.in_default.ensures.none) k found at)
    c.requires.before

pub index_mut-requires : goal.index_mut-requires
index_mut-requires c =
    let it = c.in-Some.ensures.some in
    let low = slice_get_within c.args.founds.now c.in-Some.place it.0 it.1 in
    let size = c.args.owns.now.ok.0 in
    omega (arith, low, size, c.requires.before.long)

pub returns : goal.returns
returns c =
    let it = c.in-Some.ensures.some in
    one_here c.args.image.now c.args.founds.now c.requires.rising c.args.node c.args.index c.args.d.now c.interleave_ways.result c.args.owns.now.items c.requires.once
    c.requires.there c.if-not-d.false c.interleave_ways.ensures.value
    c.in-Some.place it.0 it.1 (it.2 ∙ c.range.ensures)
    c.index_mut.result.now c.push.new.self
    (slice_get_read c.args.owns.now.items (length c.args.owns.now.items) c.in-Some.place c.index_mut.result.now refl (let low = slice_get_within c.args.founds.now c.in-Some.place it.0 it.1 in omega (arith, low, c.requires.before.long)) c.index_mut.ensures.value)
    c.in_ok-push.ensures.items
    c.requires.before
