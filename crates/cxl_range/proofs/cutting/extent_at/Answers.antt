use Rattle.std.proofs.Common.{◌≡◌, ℕ, ◌+◌, ◌<◌, ◌^◌, List, Some, length, get_or, sym, ap, subst, ◌∙◌, arith}
use Rattle.std.specs.Prelude.{slice_get}
use Rattle.std.proofs.lemmas.Option.{slice_get-get_or}
use Rattle.cxl_deal.specs.Weaves.{weave_ways, dealt_slot, dealt_offset}
use Rattle.cxl_model.specs.declared.found.Found.{Found}
use Rattle.cxl_model.specs.declared.found.Place.{Place}
use Rattle.cxl_range.proofs.Places.{place_low, same_extent}
use Rattle.cxl_range.proofs.cutting.extent_at.Goals as goal

there : (found : Found) (spans : List Place) (ways slot : ℕ) (d : Place) → spans ≡ found.spans → ways ≡ found.ways → length found.spans ≡ found.ways → slot < ways → slice_get found.spans slot ≡ Some (get_or spans slot d)
there found spans ways slot d same ways_are slots below =
    slice_get-get_or found.spans slot d (omega (arith, ways_are, slots, below)) ∙ ap (λ (xs : List Place). Some (get_or xs slot d)) (sym same)

pub overflow_add-dpa : goal.overflow_add-dpa
overflow_add-dpa c =
    let found : Found = c.args.found.now in
    let woven = c.requires.woven in
    let d : Place = record { endpoint = 0; start = 0 } in
    let place : Place = get_or c.items.result.now c.deal-dealt.result.slot d in
    let at : slice_get found.spans c.deal-dealt.result.slot ≡ Some place =
    there found c.items.result.now (weave_ways c.args.weave.now) c.deal-dealt.result.slot d c.items.ensures woven.ways woven.slots c.deal-dealt.ensures.within in
    let dealt : slice_get found.spans (dealt_slot c.args.weave.now c.args.h) ≡ Some place = subst (λ (n : ℕ). slice_get found.spans n ≡ Some place) c.deal-dealt.ensures.slot at in
    let low : place.start + dealt_offset c.args.weave.now c.args.h < 2 ^ 52 = place_low found c.args.weave.now woven (c.region_fills_slots.ensures.lands c.args.weave.now) c.args.h place c.requires.from c.requires.below dealt in
    omega (arith, low, c.deal-dealt.ensures.offset)

pub returns : goal.returns
returns c = λ w is.
    let found : Found = c.args.found.now in
    let woven = c.requires.woven in
    let d : Place = record { endpoint = 0; start = 0 } in
    let place : Place = get_or c.items.result.now c.deal-dealt.result.slot d in
    let at : slice_get found.spans c.deal-dealt.result.slot ≡ Some place =
    there found c.items.result.now (weave_ways c.args.weave.now) c.deal-dealt.result.slot d c.items.ensures woven.ways woven.slots c.deal-dealt.ensures.within in
    same_extent found c.args.weave.now w c.args.h c.args.len c.deal-dealt.result.slot (place.start + c.deal-dealt.result.offset) place is c.deal-dealt.ensures.slot at
    (ap (λ (n : ℕ). place.start + n) c.deal-dealt.ensures.offset)
