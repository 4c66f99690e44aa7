use Rattle.std.proofs.Common.{◌≡◌, ◌≤◌, List, length, sym, ap, subst, arith}
use Rattle.cxl_window.specs.Fields.{WindowFields}
use Rattle.cxl_deal.specs.Weaves.{WeaveFields, weave_ways}
use Rattle.cxl_model.specs.declared.found.Found.{Found}
use Rattle.cxl_model.specs.declared.found.Place.{Place}
use Rattle.cxl_model.specs.Regions.{weave_fields}
use Rattle.cxl_move.proofs.Dealt.{dealt_carries}
use Rattle.cxl_move.proofs.parts.device_byte.Goals as goal

pub deal-dealt-requires-clause-from : goal.deal-dealt-requires-clause-from
deal-dealt-requires-clause-from c =
    subst (λ (v : WeaveFields). v.base ≤ c.args.h) (sym c.requires.region.2.dealt) c.requires.from

pub deal-dealt-requires-clause-below : goal.deal-dealt-requires-clause-below
deal-dealt-requires-clause-below c =
    let is = c.requires.region.2 in
    omega (arith, c.requires.below, c.regions_lie_in_windows.ensures.low c.requires.region.0 c.requires.region.1 c.args.found.now is.system is.region)

pub overflow_add-result : goal.overflow_add-result
overflow_add-result c =
    let found : Found = c.args.found.now in
    let s = c.requires.region.0 in
    let w : WindowFields = c.requires.region.1 in
    let is = c.requires.region.2 in
    let d : Place = record { endpoint = 0; start = 0 } in
    let carries =
    dealt_carries found w c.args.weave.now c.items.result.now d c.args.h c.deal-dealt.result.slot c.deal-dealt.result.offset is.dealt c.items.ensures c.deal-dealt.ensures.slot c.deal-dealt.ensures.offset
    c.deal-dealt.ensures.within (c.weaves_fill_their_regions.ensures.ways s w found is.system is.region) is.region.slots c.requires.from c.requires.below in
    let lies = c.bytes_are_carried_one_to_one.ensures.inside s w found c.args.h _ _ is.system is.region carries in
    omega (arith, lies.below, c.slots_are_endpoints.ensures.low s w found lies.slot lies.place is.system is.region lies.there)

pub returns : goal.returns
returns c = λ s w is.
    let d : Place = record { endpoint = 0; start = 0 } in
    dealt_carries c.args.found.now w c.args.weave.now c.items.result.now d c.args.h c.deal-dealt.result.slot c.deal-dealt.result.offset is.dealt c.items.ensures c.deal-dealt.ensures.slot c.deal-dealt.ensures.offset
    c.deal-dealt.ensures.within (c.weaves_fill_their_regions.ensures.ways s w c.args.found.now is.system is.region) is.region.slots c.requires.from c.requires.below

pub bounds-items-dealt : goal.bounds-items-dealt
bounds-items-dealt c =
    let is = c.requires.region.2 in
    let within = c.deal-dealt.ensures.within in
    let ways = c.weaves_fill_their_regions.ensures.ways c.requires.region.0 c.requires.region.1 c.args.found.now is.system is.region in
    let same : weave_ways c.args.weave.now ≡ weave_ways (weave_fields c.args.found.now c.requires.region.1) = ap weave_ways is.dealt in
    let slots = is.region.slots in
    let count : length c.items.result.now ≡ length c.args.found.now.spans = ap (λ (places : List Place). length places) c.items.ensures in
    omega (arith, within, ways, same, slots, count)
