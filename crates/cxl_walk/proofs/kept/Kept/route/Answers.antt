use Rattle.std.proofs.Common.{◌≡◌, ◌<◌, List, length, sym, ap, subst, ◌∙◌, arith}
use Rattle.cxl_window.specs.Fields.{WindowFields}
use Rattle.cxl_deal.specs.Weaves.{WeaveFields, weave_ways, dealt_slot, dealt_offset}
use Rattle.cxl_model.specs.declared.found.Found.{Found}
use Rattle.cxl_model.specs.System.{System, IsSystem}
use Rattle.cxl_model.specs.Regions.{IsRegionIn, weave_fields}
use Rattle.cxl_walk.specs.declared.route.Route.{Route}
use Rattle.cxl_walk.specs.Keeping.{KeptFields, IsKept, IsSlotRoute}
use Rattle.cxl_walk.proofs.Keepings.{facts, WeaveLaws, in_slot, span_low, RouteLaws, routed, device_byte, route_there}
use Rattle.cxl_walk.proofs.kept.Kept.route.Goals as goal

pub deal-dealt-requires-clause-below : goal.deal-dealt-requires-clause-below
deal-dealt-requires-clause-below c =
    let known = facts c.requires.s c.requires.w c.requires.found c.requires.system c.requires.region in
    omega (arith, known.low, c.requires.below)

pub overflow_add-route : goal.overflow_add-route
overflow_add-route c =
    let s : System = c.requires.s in
    let w : WindowFields = c.requires.w in
    let found : Found = c.requires.found in
    let system : IsSystem s = c.requires.system in
    let region : IsRegionIn s w found = c.requires.region in
    let is : IsKept s w found c.args.self.now = c.requires.is in
    let weave : c.self.inside.weave ≡ weave_fields found w = ap (λ (k : KeptFields). k.weave) c.self.view_is ∙ is.weave in
    let routes = c.items.ensures ∙ ap (λ (k : KeptFields). k.routes) c.self.view_is in
    let within : c.deal-dealt.result.slot < length c.args.self.now.routes =
    omega (arith, c.deal-dealt.ensures.within, ap (λ (v : WeaveFields). weave_ways v) weave, c.weaves_fill_their_regions.ensures.ways s w found system region, is.count) in
    let there = route_there c.args.self.now c.items.result.now c.deal-dealt.result.slot c.index-items-dealt.result routes within c.index-items-dealt.is in
    let own : IsSlotRoute s w found c.deal-dealt.result.slot c.index-items-dealt.result = is.each c.deal-dealt.result.slot c.index-items-dealt.result there in
    let laws : RouteLaws s w found = record {
      route = λ x. c.chain_is_the_dealing.ensures.route s w found x system region;
      only = λ x outcome. c.chain_is_the_dealing.ensures.only s w found x outcome system region;
    } in
    let weaves : WeaveLaws s w found = record {
      ways = c.weaves_fill_their_regions.ensures.ways s w found system region;
      turns = c.weaves_fill_their_regions.ensures.turns s w found system region;
      lands = c.region_fills_slots.ensures.lands (weave_fields found w);
      within = c.region_fills_slots.ensures.within (weave_fields found w);
    } in
    let byte = device_byte s w found laws c.deal-dealt.result.slot c.index-items-dealt.result own in
    let inside = c.slots_are_endpoints.ensures.inside s w found c.deal-dealt.result.slot byte.0 system region byte.1 in
    let low = span_low s found byte.0 system.tree inside in
    let far = in_slot s w found (facts s w found system region) weaves c.args.h c.requires.from c.requires.below in
    let offset : c.deal-dealt.result.offset ≡ dealt_offset (weave_fields found w) c.args.h = c.deal-dealt.ensures.offset ∙ ap (λ (v : WeaveFields). dealt_offset v c.args.h) weave in
    omega (arith, low, far, offset, byte.2)

pub returns-clause-chain : goal.returns-clause-chain
returns-clause-chain c = λ s w found system region is from below.
    let weave : c.self.inside.weave ≡ weave_fields found w = ap (λ (k : KeptFields). k.weave) c.self.view_is ∙ is.weave in
    let routes = c.items.ensures ∙ ap (λ (k : KeptFields). k.routes) c.self.view_is in
    let within : c.deal-dealt.result.slot < length c.args.self.now.routes =
    omega (arith, c.deal-dealt.ensures.within, ap (λ (v : WeaveFields). weave_ways v) weave, c.weaves_fill_their_regions.ensures.ways s w found system region, is.count) in
    let there = route_there c.args.self.now c.items.result.now c.deal-dealt.result.slot c.index-items-dealt.result routes within c.index-items-dealt.is in
    let own : IsSlotRoute s w found c.deal-dealt.result.slot c.index-items-dealt.result = is.each c.deal-dealt.result.slot c.index-items-dealt.result there in
    let laws : RouteLaws s w found = record {
      route = λ x. c.chain_is_the_dealing.ensures.route s w found x system region;
      only = λ x outcome. c.chain_is_the_dealing.ensures.only s w found x outcome system region;
    } in
    routed s w found laws c.deal-dealt.result.slot c.args.h c.deal-dealt.result.offset c.index-items-dealt.result own from below
    (c.deal-dealt.ensures.slot ∙ ap (λ (v : WeaveFields). dealt_slot v c.args.h) weave)
    (c.deal-dealt.ensures.offset ∙ ap (λ (v : WeaveFields). dealt_offset v c.args.h) weave)

pub returns-clause-zeros : goal.returns-clause-zeros
returns-clause-zeros c =
    let s : System = c.requires.s in
    let w : WindowFields = c.requires.w in
    let found : Found = c.requires.found in
    let system : IsSystem s = c.requires.system in
    let region : IsRegionIn s w found = c.requires.region in
    let is : IsKept s w found c.args.self.now = c.requires.is in
    let weave : c.self.inside.weave ≡ weave_fields found w = ap (λ (k : KeptFields). k.weave) c.self.view_is ∙ is.weave in
    let routes = c.items.ensures ∙ ap (λ (k : KeptFields). k.routes) c.self.view_is in
    let within : c.deal-dealt.result.slot < length c.args.self.now.routes =
    omega (arith, c.deal-dealt.ensures.within, ap (λ (v : WeaveFields). weave_ways v) weave, c.weaves_fill_their_regions.ensures.ways s w found system region, is.count) in
    let there = route_there c.args.self.now c.items.result.now c.deal-dealt.result.slot c.index-items-dealt.result routes within c.index-items-dealt.is in
    let own : IsSlotRoute s w found c.deal-dealt.result.slot c.index-items-dealt.result = is.each c.deal-dealt.result.slot c.index-items-dealt.result there in
    own.zeros

pub bounds-items-dealt : goal.bounds-items-dealt
bounds-items-dealt c =
    let weave : c.self.inside.weave ≡ weave_fields c.requires.found c.requires.w = ap (λ (k : KeptFields). k.weave) c.self.view_is ∙ c.requires.is.weave in
    let routes = c.items.ensures ∙ ap (λ (k : KeptFields). k.routes) c.self.view_is in
    let within : c.deal-dealt.result.slot < length c.args.self.now.routes =
    omega (arith, c.deal-dealt.ensures.within, ap (λ (v : WeaveFields). weave_ways v) weave, c.weaves_fill_their_regions.ensures.ways c.requires.s c.requires.w c.requires.found c.requires.system c.requires.region, c.requires.is.count) in
    subst (λ (rs : List Route). c.deal-dealt.result.slot < length rs) (sym routes) within
