use Rattle.std.proofs.Common.{◌≡◌, ℕ, ◌+◌, ◌*◌, ◌/◌, ◌%◌, ◌<◌, ◌∙◌, List, length, get_or, ap, subst, arith}
use Rattle.cxl_enc.specs.Limits.{address_limit}
use Rattle.cxl_window.specs.Fields.{WindowFields}
use Rattle.cxl_deal.specs.Weaves.{WeaveFields, weave_ways}
use Rattle.cxl_model.specs.declared.found.Found.{Found}
use Rattle.cxl_model.specs.declared.found.Place.{Place}
use Rattle.cxl_model.specs.Regions.{Carries}
use Rattle.cxl_move.proofs.Dealt.{dealt_carries}
use Rattle.cxl_move.proofs.pieces.block_of.Goals as goal

pub weave_of-weave-requires : goal.weave_of-weave-requires
weave_of-weave-requires c =
    let r = c.requires.region in
    record { region = (r.0, record { tree = r.1.tree; blocks = r.1.blocks; made = r.1.made }, r.2) }

pub overflow_mul-n : goal.overflow_mul-n
overflow_mul-n c =
    let r = c.requires.region in
    omega (arith, c.requires.within, c.regions_lie_in_windows.ensures.low r.0 c.args.side.now.window.now c.args.side.now.found.now r.1 r.2)

pub overflow_add-side : goal.overflow_add-side
overflow_add-side c =
    let r = c.requires.region in
    omega (arith, c.requires.within, c.regions_lie_in_windows.ensures.low r.0 c.args.side.now.window.now c.args.side.now.found.now r.1 r.2)

pub deal-dealt-requires-clause-from : goal.deal-dealt-requires-clause-from
deal-dealt-requires-clause-from c = omega (arith, ap (λ (v : WeaveFields). v.base) c.weave_of-weave.ensures)

pub deal-dealt-requires-clause-below : goal.deal-dealt-requires-clause-below
deal-dealt-requires-clause-below c =
    let r = c.requires.region in
    omega (arith, c.requires.within, c.regions_lie_in_windows.ensures.low r.0 c.args.side.now.window.now c.args.side.now.found.now r.1 r.2)

pub bounds-items-dealt : goal.bounds-items-dealt
bounds-items-dealt c =
    let r = c.requires.region in
    let weave = ap (λ (v : WeaveFields). weave_ways v) c.weave_of-weave.ensures in
    let ways = c.weaves_fill_their_regions.ensures.ways r.0 c.args.side.now.window.now c.args.side.now.found.now r.1 r.2 in
    omega (arith, c.deal-dealt.ensures.within, weave, ways, r.2.slots, ap (λ (places : List Place). length places) c.items.ensures)

pub overflow_add-result : goal.overflow_add-result
overflow_add-result c =
    let found : Found = c.args.side.now.found.now in
    let w : WindowFields = c.args.side.now.window.now in
    let r = c.requires.region in
    let h : ℕ = found.base + 256 * c.args.n in
    let d : Place = record { endpoint = 0; start = 0 } in
    let within = c.requires.within in
    let carries =
    dealt_carries found w c.weave_of-weave.result c.items.result.now d h c.deal-dealt.result.slot c.deal-dealt.result.offset c.weave_of-weave.ensures c.items.ensures c.deal-dealt.ensures.slot c.deal-dealt.ensures.offset
    c.deal-dealt.ensures.within (c.weaves_fill_their_regions.ensures.ways r.0 w found r.1 r.2) r.2.slots (omega arith) (omega (arith, within)) in
    let lies = c.bytes_are_carried_one_to_one.ensures.inside r.0 w found h _ _ r.1 r.2 carries in
    omega (arith, lies.below, c.slots_are_endpoints.ensures.low r.0 w found lies.slot lies.place r.1 r.2 lies.there)

pub returns-clause-at : goal.returns-clause-at
returns-clause-at c =
    let found : Found = c.args.side.now.found.now in
    let w : WindowFields = c.args.side.now.window.now in
    let r = c.requires.region in
    let h : ℕ = found.base + 256 * c.args.n in
    let d : Place = record { endpoint = 0; start = 0 } in
    let place : Place = get_or c.items.result.now c.deal-dealt.result.slot d in
    let dpa : ℕ = place.start + c.deal-dealt.result.offset in
    let within = c.requires.within in
    let carries : Carries found w h place.endpoint dpa =
    dealt_carries found w c.weave_of-weave.result c.items.result.now d h c.deal-dealt.result.slot c.deal-dealt.result.offset c.weave_of-weave.ensures c.items.ensures c.deal-dealt.ensures.slot c.deal-dealt.ensures.offset
    c.deal-dealt.ensures.within (c.weaves_fill_their_regions.ensures.ways r.0 w found r.1 r.2) r.2.slots (omega arith) (omega (arith, within)) in
    let even : dpa % 256 ≡ 0 = c.pieces_are_carried_whole.ensures.aligned r.0 w found h place.endpoint dpa r.1 r.2 carries ∙ omega arith in
    let whole : dpa ≡ 256 * (dpa / 256) = omega (arith, even) in
    subst (λ (x : ℕ). Carries found w h place.endpoint x) whole carries

pub returns-clause-low : goal.returns-clause-low
returns-clause-low c =
    let found : Found = c.args.side.now.found.now in
    let w : WindowFields = c.args.side.now.window.now in
    let r = c.requires.region in
    let h : ℕ = found.base + 256 * c.args.n in
    let d : Place = record { endpoint = 0; start = 0 } in
    let place : Place = get_or c.items.result.now c.deal-dealt.result.slot d in
    let dpa : ℕ = place.start + c.deal-dealt.result.offset in
    let within = c.requires.within in
    let carries : Carries found w h place.endpoint dpa =
    dealt_carries found w c.weave_of-weave.result c.items.result.now d h c.deal-dealt.result.slot c.deal-dealt.result.offset c.weave_of-weave.ensures c.items.ensures c.deal-dealt.ensures.slot c.deal-dealt.ensures.offset
    c.deal-dealt.ensures.within (c.weaves_fill_their_regions.ensures.ways r.0 w found r.1 r.2) r.2.slots (omega arith) (omega (arith, within)) in
    let lies = c.bytes_are_carried_one_to_one.ensures.inside r.0 w found h place.endpoint dpa r.1 r.2 carries in
    let low = c.slots_are_endpoints.ensures.low r.0 w found lies.slot lies.place r.1 r.2 lies.there in
    let below = lies.below in
    let small : dpa < address_limit = omega (arith, low, below) in
    omega (arith, small)
