-- What the way of a host byte is told as.
use Rattle.std.proofs.Common.{◌≡◌, ℕ, zero, suc, ◌+◌, ◌-◌, ◌<◌, ◌≤◌, true, List, ◌∷◌, ◌++◌, map, length, drop, replicate, Option, refl, sym, ap, ◌∙◌, subst, arith}
use Rattle.std.specs.Option.{option_map_or}
use Rattle.std.proofs.lemmas.List.{take-append-drop, map-append, length-take-le}
use Rattle.cxl_deal.specs.Weaves.{dealt_offset}
use Rattle.cxl_model.specs.declared.chain.Step.{Step}
use Rattle.cxl_model.specs.declared.found.Place.{Place}
use Rattle.cxl_model.specs.Chain.{Chain, ChainEnd, Routing, Routed}
use Rattle.cxl_model.specs.Dealing.{IsDealtRoute, slot_steps}
use Rattle.cxl_model.specs.Regions.{region_range, weave_fields}
use Rattle.cxl_walk.specs.declared.route.Route.{Route}
use Rattle.cxl_walk.specs.Routes.{routing_of, steps_of, no_step}
use Rattle.cxl_move.proofs.Dealt.{IsDealtTo, dealt_to}
use Rattle.cxl_reply.specs.declared.details.Downed.{Downed}
use Rattle.cxl_reply.specs.declared.details.Via.{Via}
use Rattle.cxl_machine.specs.Machine.{Live, Machine, has_host, region_window}
use Rattle.cxl_machine.specs.Accesses.{slot_of_host, slot_place, steps_to, via_of, five_vias, downed}
use Rattle.cxl_live.proofs.Hosts.{host_from, host_below}

-- ---- lists

map_same : {A B : Type 0} (f : A → B) (n : ℕ) (x : A) → map f (replicate n x) ≡ replicate n (f x)
map_same f zero x = refl
map_same {B = B} f (suc n) x = ap (λ (ys : List B). f x ∷ ys) (map_same f n x)

-- ---- the route as it is told

same_end : (one other : Routing) → ◌≡◌ {A = ChainEnd} (Routed one) (Routed other) → one ≡ other
same_end one other e = cc

module _ (m : Machine) (region : Live) (h : ℕ) (r : Route) (few : r.len ≤ 5) (long : length r.steps ≡ 5) (zeros : drop r.len r.steps ≡ replicate (5 - r.len) no_step)
    (is : IsDealtRoute m.settled (region_window m.settled region.found) region.found h (routing_of r)) where
  to : IsDealtTo region.found (region_window m.settled region.found) h r.endpoint r.dpa
  to = dealt_to region.found (region_window m.settled region.found) h r.endpoint r.dpa is.place

  place_is : slot_place region.found (slot_of_host m region h) ≡ to.place
  place_is = ap (λ (o : Option Place). option_map_or (λ (place : Place). place) o (record { endpoint = 0; start = 0 })) to.there

  endpoint_is : r.endpoint ≡ (slot_place region.found (slot_of_host m region h)).endpoint
  endpoint_is = sym (ap (λ (place : Place). place.endpoint) place_is ∙ to.here)

  steps_is : steps_of r ≡ steps_to m region h
  steps_is =
      is.steps
      ∙ ap (slot_steps m.settled (region_window m.settled region.found) (region_range region.found) (slot_of_host m region h)) endpoint_is

  len_is : r.len ≡ length (steps_to m region h)
  len_is = sym (length-take-le r.len r.steps (omega (arith, few, long))) ∙ ap (λ (steps : List Step). length steps) steps_is

  via_is : map via_of r.steps ≡ five_vias (steps_to m region h)
  via_is =
      ap (map via_of) (sym (take-append-drop r.len r.steps) ∙ ap (λ (steps : List Step). steps_of r ++ steps) zeros)
      ∙ map-append via_of (steps_of r) (replicate (5 - r.len) no_step)
      ∙ ap (λ (vias : List Via). map via_of (steps_of r) ++ vias) (map_same via_of (5 - r.len) no_step)
      ∙ ap (λ (n : ℕ). map via_of (steps_of r) ++ replicate (5 - n) (via_of no_step)) len_is
      ∙ ap (λ (steps : List Step). map via_of steps ++ replicate (5 - length (steps_to m region h)) (via_of no_step)) steps_is

  dpa_is : r.dpa ≡ (slot_place region.found (slot_of_host m region h)).start + dealt_offset (weave_fields region.found (region_window m.settled region.found)) h
  dpa_is = sym (ap (λ (place : Place). place.start + dealt_offset (weave_fields region.found (region_window m.settled region.found)) h) place_is ∙ to.at)

  pub downed_is : (name : List ℕ) (slot : ℕ) (via : List Via) → name ≡ region.name → slot ≡ slot_of_host m region h → via ≡ map via_of r.steps
      → ◌≡◌ {A = Downed} (record { h = h; name = name; slot = slot; position = r.position; len = r.len; via = via; endpoint = r.endpoint; dpa = r.dpa }) (downed m h region)
  downed_is name slot via named dealt vias = cc (named, dealt, vias ∙ via_is, is.position, len_is, endpoint_is, dpa_is)

-- ---- one of a region's host bytes, by its chain

pub downed_by_chain : (m : Machine) (region : Live) (h : ℕ) (r : Route) → has_host region.found h ≡ true
    → ((outcome : ChainEnd) → region.found.base ≤ h → h < region.found.base + region.found.size → Chain m.settled h outcome
    → (route : Routing) × (outcome ≡ Routed route) × IsDealtRoute m.settled (region_window m.settled region.found) region.found h route)
    → Chain m.settled h (Routed (routing_of r)) → IsDealtRoute m.settled (region_window m.settled region.found) region.found h (routing_of r)
downed_by_chain m region h r has only chain =
    let own = only (Routed (routing_of r)) (host_from region.found h has) (host_below region.found h has) chain in
    subst (IsDealtRoute m.settled (region_window m.settled region.found) region.found h) (sym (same_end (routing_of r) own.0 own.1)) own.2
