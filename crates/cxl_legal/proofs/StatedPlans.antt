-- A plan as it is stated exists for each request that fits.
use Rattle.std.proofs.Common.{◌≡◌, ℕ, zero, suc, ◌+◌, ◌*◌, ◌/◌, ◌%◌, ◌^◌, ◌<◌, ◌≤◌, true, false, List, length, get_or, map, Option, Some, None, refl, sym, ap, ◌∙◌, subst, inl, inr, arith}
use Rattle.std.specs.Prelude.{slice_get, IsSomeAnd}
use Rattle.std.specs.Option.{option_map_or, option_and_then}
use Rattle.std.specs.List.{list_all, range_with_len}
use Rattle.std.proofs.Math.Nat.{mod-lt}
use Rattle.std.proofs.lemmas.Bool.{and_parts, false≢true}
use Rattle.std.proofs.lemmas.Option.{slice_get-get_or, slice_get_within, get_or_from_slice_get}
use Rattle.std.proofs.lemmas.List.FromFn.{length-map-range_with_len, get_or-map-range_with_len}
use Rattle.std.proofs.lemmas.List.Sums.{AllPass-from_list_all}
use Rattle.cxl_enc.specs.Codes.{is_ways, third_of, bits_of}
use Rattle.cxl_enc.proofs.Lists.{some_filtered}
use Rattle.cxl_enc.proofs.Ways.{each_ways}
use Rattle.cxl_topo.specs.Tree.{is_endpoint_at, child_of, bridge_with}
use Rattle.cxl_window.specs.Fields.{WindowFields}
use Rattle.cxl_topo.proofs.Trees.{parent_is_port}
use Rattle.cxl_model.specs.declared.found.Place.{Place}
use Rattle.cxl_model.specs.declared.plan.Plan.{Plan}
use Rattle.cxl_model.specs.declared.request.Request.{Request}
use Rattle.cxl_model.specs.System.{System}
use Rattle.cxl_model.specs.Regions.{target_position}
use Rattle.cxl_model.specs.Plans.{plan_code}
use Rattle.cxl_legal.specs.Used.{request_ways, is_used, is_port_used, used_ports, planned_ways}
use Rattle.cxl_legal.specs.Windows.{is_used_bridge}
use Rattle.cxl_legal.specs.Stated.{stated_rows, stated_start, planned_slots_an_entry, planned_port, Reaches, at_endpoint, past_port, IsStatedPlace, IsStatedPlan}
use Rattle.cxl_legal.proofs.RowsUsed.{used_kind}
use Rattle.cxl_legal.proofs.StatedImages.{Stated}
use Rattle.cxl_legal.proofs.UsedPorts.{port_ways, port_child, ports_pass, own_port}
use Rattle.cxl_legal.proofs.StatedCounts.{known_window}
use Rattle.cxl_legal.proofs.StatedLands.{used_in}

-- ---- down from a used node

-- the used port of a slot, with its child
record Next (s : System) (request : Request) (w : WindowFields) (slot n : ℕ) : Type 0 where
  child : ℕ
  higher : n < child
  way : option_and_then (child_of s.nodes n) (planned_port s request w slot n) ≡ Some child
  used : is_used s request child ≡ true

next_of : {s : System} {request : Request} {w : WindowFields} {base : ℕ} → Stated s request w base → (slot n : ℕ) → is_endpoint_at s.nodes n ≡ false → is_used s request n ≡ true → Next s request w slot n
next_of {s} {request} {w} c slot n port used =
    let ways = port_ways s request n port in
    let some : 0 < length (used_ports s request n) = some_filtered (is_port_used s request n) (range_with_len 0 256) (own_port s request c.known c.fits.ports c.fits.named n port used) in
    let j : ℕ = slot / planned_slots_an_entry s request w n % planned_ways s request n in
    let least : 0 < planned_ways s request n = omega (arith, ways, some) in
    let below : slot / planned_slots_an_entry s request w n % planned_ways s request n < planned_ways s request n = mod-lt (slot / planned_slots_an_entry s request w n) least in
    let low : slot / planned_slots_an_entry s request w n % planned_ways s request n < length (used_ports s request n) = omega (arith, below, ways) in
    let e : ℕ = get_or (used_ports s request n) j 0 in
    let at : planned_port s request w slot n ≡ Some e = slice_get-get_or (used_ports s request n) j 0 low in
    let next = port_child s request c.known n e (ports_pass s request n j 0 low) in
    record {
      child = next.child;
      higher = (parent_is_port c.known next.child (record { node = n; port = e }) next.parent).0;
      way = ap (option_and_then (child_of s.nodes n)) at ∙ next.stands;
      used = next.used;
    }

reaches : {s : System} {request : Request} {w : WindowFields} {base : ℕ} → Stated s request w base → (slot k n : ℕ) → length s.nodes ≤ n + k → is_used s request n ≡ true → (m : ℕ) × Reaches s request w slot n m
reaches {s} {request} c slot zero n past used = let within = used_in c n used in absurd (omega arith)
reaches {s} {request} c slot (suc k) n past used =
    elim (used_kind s request n c.known c.fits.named used) [
      | inl endpoint ↦ (n, at_endpoint n endpoint.1)
      | inr port ↦
          let next = next_of c slot n port.1 used in
          let higher = next.higher in
          let rest = reaches c slot k next.child (omega (arith, higher, past)) next.used in
          (rest.0, past_port n next.child rest.0 port.0 next.way rest.1)
    ]

-- ---- from the window's target

-- a slot's position is that of a target
position_low : (ways slot : ℕ) → is_ways ways ≡ true → slot % 2 ^ bits_of ways + 2 ^ bits_of ways * (slot / 2 ^ bits_of ways % third_of ways) < ways
position_low ways slot known =
    each_ways (λ n. slot % 2 ^ bits_of n + 2 ^ bits_of n * (slot / 2 ^ bits_of n % third_of n) < n) ways known
    (omega arith) (omega arith) (omega arith) (omega arith) (omega arith) (omega arith) (omega arith) (omega arith)

record Target (s : System) (request : Request) (w : WindowFields) (slot : ℕ) : Type 0 where
  bridge : ℕ
  target : IsSomeAnd (slice_get w.targets (target_position w slot)) (λ uid. bridge_with s.nodes uid ≡ Some bridge)
  used : is_used s request bridge ≡ true

target_of : {s : System} {request : Request} {w : WindowFields} {base : ℕ} → Stated s request w base → (slot : ℕ) → Target s request w slot
target_of {s} {request} {w} c slot =
    let window = known_window c in
    let long = window.target_each_way in
    let below = position_low w.ways slot window.ways_known in
    let low : target_position w slot < length w.targets = omega (arith, below, long) in
    let all : list_all (is_used_bridge s request) w.targets ≡ true = (and_parts (list_all (is_used_bridge s request) w.targets) _ c.fits.window.bridges).0 in
    go (get_or w.targets (target_position w slot) 0) (slice_get-get_or w.targets (target_position w slot) 0 low)
    (bridge_with s.nodes (get_or w.targets (target_position w slot) 0)) refl (AllPass-from_list_all (is_used_bridge s request) w.targets all (target_position w slot) 0 low)
  where
    go : (uid : ℕ) → slice_get w.targets (target_position w slot) ≡ Some uid → (o : Option ℕ) → bridge_with s.nodes uid ≡ o → option_map_or (is_used s request) o false ≡ true → Target s request w slot
    go uid at None found is = absurd (false≢true is)
    go uid at (Some b) found is = record { bridge = b; target = subst (λ (o : Option ℕ). IsSomeAnd o (λ u. bridge_with s.nodes u ≡ Some b)) (sym at) found; used = is }

-- ---- the plan

place_of : {s : System} {request : Request} {w : WindowFields} {base : ℕ} → Stated s request w base → (slot : ℕ) → (place : Place) × IsStatedPlace s request w slot place
place_of {s} {request} c slot =
    let target = target_of c slot in
    let end = reaches c slot (length s.nodes) target.bridge (omega arith) target.used in
    (record { endpoint = end.0; start = stated_start s request end.0 }, record { bridge = target.bridge; target = target.target; reaches = end.1; start = refl })

places_of : {s : System} {request : Request} {w : WindowFields} {base : ℕ} → Stated s request w base → List Place
places_of {s} {request} c = map (λ slot. (place_of c slot).0) (range_with_len 0 (request_ways request))

each_place : {s : System} {request : Request} {w : WindowFields} {base : ℕ} (c : Stated s request w base) (slot : ℕ) (place : Place) → slice_get (places_of c) slot ≡ Some place → IsStatedPlace s request w slot place
unfolding places_of
each_place {s} {request} {w} c slot place at =
    let within = slice_get_within (places_of c) slot place at in
    let long = length-map-range_with_len (λ slot. (place_of c slot).0) 0 (request_ways request) in
    let low : slot < request_ways request = omega (arith, within, long) in
    let same : (place_of c slot).0 ≡ place = sym (get_or-map-range_with_len (λ k. (place_of c k).0) 0 (request_ways request) slot slot place low (omega arith)) ∙ get_or_from_slice_get (places_of c) slot place place at in
    subst (λ (x : Place). IsStatedPlace s request w slot x) same (place_of c slot).1

pub plan_there : {s : System} {request : Request} {w : WindowFields} {base : ℕ} → Stated s request w base → (plan : Plan) × IsStatedPlan s request w base plan
unfolding places_of
plan_there {s} {request} {w} {base} c = (
  record {
    name = request.name;
    found = record {
      base = base;
      size = request.size;
      window = w.index;
      gran = plan_code request w (request_ways request);
      ways = request_ways request;
      kind = request.kind;
      spans = places_of c;
    };
    rows = stated_rows s request w base;
  },
  record {
    name = refl;
    starts = refl;
    size = refl;
    window = refl;
    code = refl;
    ways = refl;
    kind = refl;
    slots = length-map-range_with_len (λ slot. (place_of c slot).0) 0 (request_ways request);
    places = each_place c;
    rows = refl;
  },
)
