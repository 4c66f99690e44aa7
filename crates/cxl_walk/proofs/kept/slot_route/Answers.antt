use Rattle.std.proofs.Common.{◌≡◌, ◌≤◌, ◌/◌, length, get_or, Some, refl, sym, ap, subst, ◌∙◌, arith}
use Rattle.std.specs.Prelude.{slice_get}
use Rattle.std.specs.Option.{IsSome}
use Rattle.std.proofs.lemmas.Bool.{and_parts}
use Rattle.cxl_deal.specs.Weaves.{IsWeave}
use Rattle.cxl_topo.specs.Tree.{is_endpoint_at}
use Rattle.cxl_window.specs.Fields.{WindowFields}
use Rattle.cxl_model.specs.declared.found.Place.{Place}
use Rattle.cxl_model.specs.Ranges.{serves}
use Rattle.cxl_model.specs.Regions.{region_range, weave_fields}
use Rattle.cxl_model.specs.System.{System}
use Rattle.cxl_model.proofs.RangeRules.{served}
use Rattle.cxl_model.proofs.RangeServers.{endpoint_inside}
use Rattle.cxl_walk.specs.Keeping.{IsOwnIn}
use Rattle.cxl_walk.proofs.Keepings.{RouteLaws}
use Rattle.cxl_walk.proofs.Slots.{own_found, own_index, own_there}
use Rattle.cxl_walk.proofs.SlotRoutes.{HitLaws, slot_route_is, place_there}
use Rattle.cxl_walk.proofs.kept.slot_route.Goals as goal

pub prove-unreachable-requires : goal.prove-unreachable-requires
prove-unreachable-requires c =
    let s : System = c.requires.region.0 in
    let is : IsOwnIn s c.args.topo.now.nodes c.args.window.now c.args.found.now c.args.own.now = c.requires.region.1 in
    let found = c.args.found.now in
    let long = is.region.slots in
    let place : Place = get_or c.items.result.now c.from.result (record { endpoint = 0; start = 0 }) in
    let there : slice_get found.spans c.args.slot ≡ Some place = place_there found.spans c.items.result.now c.args.slot c.from.result (record { endpoint = 0; start = 0 }) c.items.ensures c.from.ensures (omega (arith, long, c.requires.slot)) in
    let inside = endpoint_inside s (region_range found) place.endpoint (c.slots_are_endpoints.ensures.endpoint s c.args.window.now found c.args.slot place is.system is.region there) in
    let count : length s.nodes ≡ length c.args.topo.now.nodes = ap length is.tree in
    let many = c.count-count.ensures.count in
    let past : c.count-count.result ≤ place.endpoint = c.if-prove.true in
    omega (arith, inside, count, many, past)

pub put_steps-requires-clause-here : goal.put_steps-requires-clause-here
put_steps-requires-clause-here c = omega (arith, c.if-prove.false, c.count-count.ensures.count)

pub put_steps-requires-clause-own : goal.put_steps-requires-clause-own
put_steps-requires-clause-own c = (c.requires.region.0, c.args.found.now, c.requires.region.1.are, c.requires.region.1.tree)

pub own_at-requires : goal.own_at-requires
own_at-requires c = (c.requires.region.0, c.args.found.now, c.requires.region.1.are)

pub target_position-requires : goal.target_position-requires
target_position-requires c =
    let s : System = c.requires.region.0 in
    let is : IsOwnIn s c.args.topo.now.nodes c.args.window.now c.args.found.now c.args.own.now = c.requires.region.1 in
    let found = c.args.found.now in
    let w : WindowFields = c.args.window.now in
    let weave : IsWeave (weave_fields found w) = c.weaves_fill_their_regions.ensures.kept s w found is.system is.region in
    omega (arith, weave.few_ways, c.weaves_fill_their_regions.ensures.ways s w found is.system is.region, c.requires.slot)

pub unwrap-last-requires : goal.unwrap-last-requires
unwrap-last-requires c =
    let s : System = c.requires.region.0 in
    let is : IsOwnIn s c.args.topo.now.nodes c.args.window.now c.args.found.now c.args.own.now = c.requires.region.1 in
    let found = c.args.found.now in
    let long = is.region.slots in
    let place : Place = get_or c.items.result.now c.from.result (record { endpoint = 0; start = 0 }) in
    let there : slice_get found.spans c.args.slot ≡ Some place = place_there found.spans c.items.result.now c.args.slot c.from.result (record { endpoint = 0; start = 0 }) c.items.ensures c.from.ensures (omega (arith, long, c.requires.slot)) in
    let of_range = c.slots_are_endpoints.ensures.endpoint s c.args.window.now found c.args.slot place is.system is.region there in
    let inside = endpoint_inside s (region_range found) place.endpoint of_range in
    let serves_it = (and_parts (is_endpoint_at s.nodes place.endpoint) (serves s (region_range found) place.endpoint) of_range).1 in
    let own = own_found s found c.args.own.now place.endpoint c.own_at.result inside is.are c.own_at.ensures in
    subst IsSome (sym (own_there s (region_range found) place.endpoint (served s (region_range found) place.endpoint serves_it)) ∙ own) refl

pub returns : goal.returns
returns c = λ s is.
    let found = c.args.found.now in
    let w : WindowFields = c.args.window.now in
    let long = is.region.slots in
    let place : Place = get_or c.items.result.now c.from.result (record { endpoint = 0; start = 0 }) in
    let there : slice_get found.spans c.args.slot ≡ Some place = place_there found.spans c.items.result.now c.args.slot c.from.result (record { endpoint = 0; start = 0 }) c.items.ensures c.from.ensures (omega (arith, long, c.requires.slot)) in
    let of_range = c.slots_are_endpoints.ensures.endpoint s w found c.args.slot place is.system is.region there in
    let inside = endpoint_inside s (region_range found) place.endpoint of_range in
    let own = own_found s found c.args.own.now place.endpoint c.own_at.result inside is.are c.own_at.ensures in
    let weave = c.weaves_fill_their_regions.ensures.kept s w found is.system is.region in
    let hits : HitLaws s w found = record {
      weave = weave;
      ways = c.weaves_fill_their_regions.ensures.ways s w found is.system is.region;
      turns = c.weaves_fill_their_regions.ensures.turns s w found is.system is.region;
      hit = λ n slot offset low room. c.region_fills_slots.ensures.hit (weave_fields found w) n slot offset weave low room;
    } in
    let routes : RouteLaws s w found = record {
      route = λ h. c.chain_is_the_dealing.ensures.route s w found h is.system is.region;
      only = λ h outcome. c.chain_is_the_dealing.ensures.only s w found h outcome is.system is.region;
    } in
    slot_route_is s w found is.system is.region hits c.args.slot c.requires.slot routes place there _
    refl (c.from-3.ensures ∙ c.target_position.ensures.value) refl
    (c.put_steps.ensures.steps s w found is.tree is.are c.root_ways-root.ensures.value)
    c.put_steps.ensures.zeros
    refl (own_index s (region_range found) place.endpoint c.unwrap-last.result (own ∙ c.unwrap-last.ensures)) refl

pub put_steps-requires-clause-whole : goal.put_steps-requires-clause-whole
put_steps-requires-clause-whole c = c.no_steps-above.ensures.rest ∙ ap (λ n. n / c.root_ways-root.result) c.from-2.ensures
