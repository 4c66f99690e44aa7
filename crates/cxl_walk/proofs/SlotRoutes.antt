-- The route of a slot's first byte, told by the slot's span and the region's own decoders.
use Rattle.std.proofs.Common.{◌≡◌, ℕ, ◌+◌, ◌-◌, ◌*◌, ◌/◌, ◌<◌, ◌≤◌, List, take, drop, replicate, length, get_or, Some, sym, ap, subst, ◌∙◌, arith}
use Rattle.std.specs.Prelude.{slice_get}
use Rattle.std.proofs.Math.Nat.{mul-pos}
use Rattle.std.proofs.lemmas.Nat.{pow_pos}
use Rattle.std.proofs.lemmas.Option.{same_Some, slice_get-get_or, get_or_from_slice_get}
use Rattle.cxl_enc.proofs.Options.{some_and}
use Rattle.cxl_enc.proofs.Numbers.{some_first_factor}
use Rattle.cxl_num.specs.Interleave.{chunk_size}
use Rattle.cxl_window.specs.Fields.{WindowFields}
use Rattle.cxl_window.specs.Position.{target_position}
use Rattle.cxl_deal.specs.Weaves.{IsWeave, weave_ways, turns_end, dealt_slot, dealt_offset}
use Rattle.cxl_model.specs.declared.found.Found.{Found}
use Rattle.cxl_model.specs.declared.found.Place.{Place}
use Rattle.cxl_model.specs.System.{System, IsSystem}
use Rattle.cxl_model.specs.Chain.{Routing, Routed, Chain}
use Rattle.cxl_model.specs.Ranges.{index_for}
use Rattle.cxl_model.specs.Regions.{region_range, IsRegionIn, weave_fields}
use Rattle.cxl_model.specs.Bytes.{slot_length}
use Rattle.cxl_model.specs.Dealing.{slot_steps, IsDealtRoute}
use Rattle.cxl_walk.specs.declared.route.Route.{Route}
use Rattle.cxl_walk.specs.Routes.{routing_of, no_step}
use Rattle.cxl_walk.specs.Keeping.{IsSlotRoute, IsFirstByte}
use Rattle.cxl_walk.proofs.Keepings.{facts, RouteLaws, same_routing}

-- some byte of the region is dealt to each slot at offset 0
pub record HitLaws (s : System) (w : WindowFields) (found : Found) : Type 0 where
  pub weave : IsWeave (weave_fields found w)
  pub ways : weave_ways (weave_fields found w) ≡ found.ways
  pub turns : turns_end (weave_fields found w) (slot_length found / chunk_size found.gran) ≡ found.base + found.size
  pub hit : (n slot offset : ℕ) → slot < weave_ways (weave_fields found w) → offset < n * chunk_size found.gran
      → (h : ℕ) × (found.base ≤ h) × (h < turns_end (weave_fields found w) n) × (dealt_slot (weave_fields found w) h ≡ slot) × (dealt_offset (weave_fields found w) h ≡ offset)

module _ (s : System) (w : WindowFields) (found : Found) (system : IsSystem s) (region : IsRegionIn s w found) (hits : HitLaws s w found) (slot : ℕ) (low : slot < found.ways) where
  first_byte : (h : ℕ) × IsFirstByte found w slot h
  first_byte =
      let n : ℕ = slot_length found / chunk_size found.gran in
      let c : ℕ = chunk_size found.gran in
      let turns = hits.turns in
      let some : 0 < n = some_first_factor n (weave_ways (weave_fields found w)) c found.size (omega (arith, turns)) (facts s w found system region).some in
      let room : 0 < n * c = mul-pos some (mul-pos (omega arith) (pow_pos found.gran)) in
      let at = hits.hit n slot 0 (subst (λ (k : ℕ). slot < k) (sym hits.ways) low) room in
      (at.0, record { from = at.1; below = subst (λ (k : ℕ). at.0 < k) turns at.2; of_slot = at.3; at_start = at.4 })

  module _ (routes : RouteLaws s w found) (place : Place) (there : slice_get found.spans slot ≡ Some place) (route : Route) where
    abbrev HasPlace : ℕ → ℕ → ℕ → Place → Type 0
    HasPlace h endpoint dpa p = (p.endpoint ≡ endpoint) × (p.start + dealt_offset (weave_fields found w) h ≡ dpa)

    -- it is the route that the byte's chain is
    pub slot_route_is : route.window ≡ found.window → route.position ≡ target_position w slot → route.base ≡ found.base
        → take route.len route.steps ≡ slot_steps s w (region_range found) slot place.endpoint
        → drop route.len route.steps ≡ replicate (5 - route.len) no_step
        → route.endpoint ≡ place.endpoint → index_for s (region_range found) place.endpoint ≡ Some route.decoder → route.dpa ≡ place.start
        → IsSlotRoute s w found slot route
    slot_route_is window position base steps zeros endpoint decoder dpa =
        let first = first_byte in
        let h : ℕ = first.0 in
        let all = routes.route h first.1.from first.1.below in
        let r : Routing = all.0 in
        let dealt : IsDealtRoute s w found h r = all.2 in
        let own = some_and (slice_get found.spans (dealt_slot (weave_fields found w) h)) (HasPlace h r.arrival.endpoint r.arrival.dpa) dealt.place.place in
        let its : own.0 ≡ place = same_Some own.0 place (sym own.1 ∙ ap (λ (k : ℕ). slice_get found.spans k) first.1.of_slot ∙ there) in
        let ends : r.arrival.endpoint ≡ place.endpoint = sym own.2.0 ∙ ap (λ (p : Place). p.endpoint) its in
        let starts : own.0.start ≡ place.start = ap (λ (p : Place). p.start) its in
        let same : r ≡ routing_of route =
        same_routing r (routing_of route)
        (dealt.window ∙ sym region.index ∙ sym window)
        (dealt.slot ∙ ap (λ (k : ℕ). target_position w k) first.1.of_slot ∙ sym position)
        (dealt.steps ∙ ap (λ (k : ℕ). slot_steps s w (region_range found) k r.arrival.endpoint) first.1.of_slot ∙ ap (λ (n : ℕ). slot_steps s w (region_range found) slot n) ends ∙ sym steps)
        (ends ∙ sym endpoint)
        (same_Some r.arrival.decoder route.decoder (sym dealt.decoder ∙ ap (λ (n : ℕ). index_for s (region_range found) n) ends ∙ decoder))
        (dealt.base ∙ sym base)
        (let at = own.2.1 in let zero_off = first.1.at_start in omega (arith, at, zero_off, starts, dpa)) in
        record { first = h; is = first.1; chain = subst (λ (x : Routing). Chain s h (Routed x)) same all.1; zeros = zeros }

-- the place of a slot
pub place_there : (spans items : List Place) (slot at : ℕ) (d : Place) → items ≡ spans → at ≡ slot → slot < length spans → slice_get spans slot ≡ Some (get_or items at d)
place_there spans items slot at d same here low =
    slice_get-get_or spans slot d low ∙ ap (λ (k : ℕ). Some (get_or spans k d)) (sym here) ∙ ap (λ (xs : List Place). Some (get_or xs at d)) (sym same)

-- the region's window is the one that stands at its index
pub window_at : (s : System) (w v : WindowFields) (found : Found) → IsSystem s → IsRegionIn s w found → v ≡ get_or s.windows found.window v → v ≡ w
window_at s w v found system region is =
    let at = facts s w found system region in
    is ∙ ap (λ (i : ℕ). get_or s.windows i v) region.index ∙ get_or_from_slice_get s.windows w.index w v at.there
