-- The spans of a region: different slots have different endpoints, and each endpoint of the range is a slot's.
use Rattle.std.proofs.Common.{◌≡◌, ℕ, ◌*◌, ◌/◌, ◌%◌, ◌^◌, ◌<◌, ◌≤◌, Bool, true, false, ◌&&◌, List, length, get_or, map, Some, None, refl, sym, ap, ◌∙◌, subst, arith}
use Rattle.std.specs.Prelude.{slice_get, ◌==◌, All, IsTrue}
use Rattle.std.specs.List.{list_any}
use Rattle.std.proofs.Math.Nat.{mul-one, one-mul, zero-add, mod-lt}
use Rattle.std.proofs.lemmas.Bool.{and_parts, eqb-true, false≢true}
use Rattle.std.proofs.lemmas.Option.{slice_get_within, slice_get-get_or, get_or_from_slice_get}
use Rattle.std.proofs.lemmas.List.{length-map, get_or-map, get_or_default}
use Rattle.std.proofs.lemmas.List.Folds.{Any-from_list_any}
use Rattle.std.proofs.lemmas.List.FromFn.{length-range_with_len, get_or-range_with_len}
use Rattle.cxl_enc.specs.Codes.{is_ways, third_of, bits_of}
use Rattle.cxl_enc.proofs.Options.{some_and}
use Rattle.cxl_topo.specs.Tree.{is_endpoint_at, uid_at, parent_of, bridge_with}
use Rattle.cxl_window.specs.Fields.{WindowFields}
use Rattle.cxl_topo.proofs.Trees.{KnownTree, root_of, uid_top}
use Rattle.cxl_model.specs.declared.found.Found.{Found}
use Rattle.cxl_model.specs.declared.found.Place.{Place}
use Rattle.cxl_model.specs.System.{System, IsSystem}
use Rattle.cxl_regs.specs.declared.reading.Range.{Range}
use Rattle.cxl_model.specs.Ranges.{serves, window_for, ways_above, range_ways}
use Rattle.cxl_model.specs.Rules.{are_distinct}
use Rattle.cxl_model.specs.Accepted.{IsWhole}
use Rattle.cxl_model.specs.Regions.{target_position, slots_an_entry, LeadsTo, HasSpan, region_range, IsRegionIn}
use Rattle.cxl_model.specs.Counts.{is_endpoint_of}
use Rattle.cxl_model.proofs.Outcomes.{one_value}
use Rattle.cxl_model.proofs.Weaving.{found_ways_known}
use Rattle.cxl_model.proofs.RangeServers.{has_ways}
use Rattle.cxl_model.proofs.RangeRules.{RangesRise, served}
use Rattle.cxl_model.proofs.RangeCounts.{numbers, count_of, count_parts, one_there, no_ways_above, serves_within}
use Rattle.cxl_model.proofs.RangeWindows.{HasWindow, has_window, count_all, counted_all}
use Rattle.cxl_model.proofs.SpansNumbers.{position_parts}
use Rattle.cxl_model.proofs.SpansSlots.{IsPlace, is_place, leads_under}
use Rattle.cxl_model.proofs.SpansApart.{Agree, agree, one_index, one_slot, power}
use Rattle.cxl_model.proofs.Sums.{one, total, total_even, once, summands_same}
use Rattle.cxl_model.proofs.Under.{under_top}
use Rattle.cxl_model.proofs.Distinct.{distinct_test}

-- ---- the bridge of a slot

pub record Rooting (s : System) (w : WindowFields) (slot bridge : ℕ) : Type 0 where
  pub uid : ℕ
  pub at : slice_get w.targets (target_position w slot) ≡ Some uid
  pub found : bridge_with s.nodes uid ≡ Some bridge

pub rooting : (s : System) (w : WindowFields) (r : Range) (slot : ℕ) (place : Place) → (span : HasSpan s w r slot place) → Rooting s w slot span.bridge
rooting s w r slot place span =
    let own = some_and (slice_get w.targets (target_position w slot)) (λ uid. bridge_with s.nodes uid ≡ Some span.bridge) span.target in
    record { uid = own.0; at = own.1; found = own.2 }

-- slots of one bridge have one position among the targets
same_position : (s : System) (w : WindowFields) (a b bridge : ℕ) → KnownTree s.nodes → are_distinct w.targets ≡ true → Rooting s w a bridge → Rooting s w b bridge
    → target_position w a ≡ target_position w b
same_position s w a b bridge known distinct one other =
    let uid : one.uid ≡ other.uid = one_value (uid_at s.nodes bridge) one.uid other.uid ((known.laws.bridges one.uid bridge).0 one.found) ((known.laws.bridges other.uid bridge).0 other.found) in
    one_index w.targets (target_position w a) (target_position w b) 0 distinct
    (slice_get_within w.targets (target_position w a) one.uid one.at) (slice_get_within w.targets (target_position w b) other.uid other.at)
    (get_or_from_slice_get w.targets (target_position w a) one.uid 0 one.at ∙ uid ∙ sym (get_or_from_slice_get w.targets (target_position w b) other.uid 0 other.at))

-- ---- one slot for each endpoint

slot_of_endpoint : (s : System) (w : WindowFields) (r : Range) (a b : ℕ) (p q : Place) → IsSystem s → KnownTree s.nodes → IsWhole s r → window_for s r ≡ Some w → IsTrue (is_ways (range_ways s r))
    → HasSpan s w r a p → HasSpan s w r b q → a < range_ways s r → b < range_ways s r → p.endpoint ≡ q.endpoint → a ≡ b
slot_of_endpoint s w r a b p q system known whole window ways_known one other a_below b_below endpoint =
    one_slot w.ways same.times a b own.known.ways_known (subst (λ (n : ℕ). IsTrue (is_ways n)) ways ways_known) (subst (λ (n : ℕ). a < n) ways a_below) (subst (λ (n : ℕ). b < n) ways b_below)
    (sym (parts a).0 ∙ ap (λ (n : ℕ). n % 2 ^ bits_of w.ways) position ∙ (parts b).0)
    (sym (parts a).1 ∙ ap (λ (n : ℕ). n / 2 ^ bits_of w.ways) position ∙ (parts b).1)
    (sym (ap (λ (n : ℕ). a / n % same.times) unit) ∙ same.digits ∙ ap (λ (n : ℕ). b / n % same.times) unit)
  where
    own : HasWindow s r w
    own = has_window s r w system window

    from : Rooting s w a one.bridge
    from = rooting s w r a p one

    to : Rooting s w b other.bridge
    to = rooting s w r b q other

    top : parent_of s.nodes one.bridge ≡ None
    top = (uid_top known one.bridge from.uid ((known.laws.bridges from.uid one.bridge).0 from.found)).1

    other_top : parent_of s.nodes other.bridge ≡ None
    other_top = (uid_top known other.bridge to.uid ((known.laws.bridges to.uid other.bridge).0 to.found)).1

    bridge : one.bridge ≡ other.bridge
    bridge =
        one_value (root_of s.nodes p.endpoint) one.bridge other.bridge ((under_top known one.bridge top p.endpoint).0 (leads_under s w r a one.bridge p known one.leads))
        (ap (root_of s.nodes) endpoint ∙ (under_top known other.bridge other_top q.endpoint).0 (leads_under s w r b other.bridge q known other.leads))

    position : target_position w a ≡ target_position w b
    position = same_position s w a b one.bridge known (distinct_test w.targets own.usable.distinct) from (subst (λ (n : ℕ). Rooting s w b n) (sym bridge) to)

    parts : (slot : ℕ) → (target_position w slot % 2 ^ bits_of w.ways ≡ slot % 2 ^ bits_of w.ways) × (target_position w slot / 2 ^ bits_of w.ways ≡ slot / 2 ^ bits_of w.ways % third_of w.ways)
    parts slot = position_parts (2 ^ bits_of w.ways) (slot % 2 ^ bits_of w.ways) (slot / 2 ^ bits_of w.ways % third_of w.ways) (mod-lt slot (power (bits_of w.ways)))

    same : Agree s w r a b one.bridge p.endpoint
    same = agree s w r a b one.bridge p q known whole endpoint one.leads (subst (λ (n : ℕ). LeadsTo s w r b n q) (sym bridge) other.leads)

    alone : ways_above s r one.bridge ≡ 1
    alone = no_ways_above s r one.bridge known top

    unit : slots_an_entry s w r one.bridge ≡ 2 ^ bits_of w.ways
    unit = ap (λ (n : ℕ). 2 ^ bits_of w.ways * n) alone ∙ mul-one (2 ^ bits_of w.ways)

    place : IsPlace s r p
    place = is_place s w r a one.bridge p one.leads

    ways : range_ways s r ≡ w.ways * same.times
    ways =
        let serves = and_parts (is_endpoint_at s.nodes p.endpoint) (serves s r p.endpoint) place.endpoint in
        let at = served s r p.endpoint serves.1 in
        let is = has_ways s w r p.endpoint at.i at.d whole window (record { endpoint = serves.0; there = at.there; has = at.has }) in
        sym is.ways ∙ is.product ∙ ap (λ (n : ℕ). w.ways * n) (same.ways ∙ ap (λ (n : ℕ). n * same.times) alone ∙ one-mul same.times)

-- what is known of a region's slot
pub slot_below : (s : System) (w : WindowFields) (found : Found) → IsRegionIn s w found → (slot : ℕ) (place : Place) → slice_get found.spans slot ≡ Some place → slot < range_ways s (region_range found)
slot_below s w found is slot place at = subst (λ (n : ℕ). slot < n) (is.slots ∙ is.ways) (slice_get_within found.spans slot place at)

pub ways_of_range : (s : System) (w : WindowFields) (found : Found) → IsRegionIn s w found → IsTrue (is_ways (range_ways s (region_range found)))
ways_of_range s w found is = subst (λ (n : ℕ). IsTrue (is_ways n)) is.ways (found_ways_known s w found is)

-- different slots have different endpoints
pub slots_differ : (s : System) (w : WindowFields) (found : Found) → IsSystem s → KnownTree s.nodes → IsRegionIn s w found → (a b : ℕ) (p q : Place)
    → slice_get found.spans a ≡ Some p → slice_get found.spans b ≡ Some q → p.endpoint ≡ q.endpoint → a ≡ b
slots_differ s w found system known is a b p q a_at b_at endpoint =
    slot_of_endpoint s w (region_range found) a b p q system known is.whole is.window (ways_of_range s w found is) (is.spans a p a_at) (is.spans b q b_at)
    (slot_below s w found is a p a_at) (slot_below s w found is b q b_at) endpoint

-- a slot's place is an endpoint of the range, where the span of its decoder starts
pub slot_place : (s : System) (w : WindowFields) (found : Found) → IsRegionIn s w found → (slot : ℕ) (place : Place) → slice_get found.spans slot ≡ Some place → IsPlace s (region_range found) place
slot_place s w found is slot place at = let span = is.spans slot place at in is_place s w (region_range found) slot span.bridge place span.leads

-- ---- a slot for each endpoint

abbrev ends : Found → List ℕ
ends found = map (λ place. place.endpoint) found.spans

pub no_place : Place
no_place = record { endpoint = 0; start = 0 }

ends_differ : (s : System) (w : WindowFields) (found : Found) → IsSystem s → KnownTree s.nodes → IsRegionIn s w found → are_distinct (ends found) ≡ true
ends_differ s w found system known is =
    distinct_test (ends found) (λ i j d less within same.
    let j_within : j < length found.spans = subst (λ (n : ℕ). j < n) (length-map found.spans (λ place. place.endpoint)) within in
    let i_within : i < length found.spans = omega arith in
    let p : Place = get_or found.spans i no_place in
    let q : Place = get_or found.spans j no_place in
    let one = slots_differ s w found system known is i j p q (slice_get-get_or found.spans i no_place i_within) (slice_get-get_or found.spans j no_place j_within)
    (sym (get_or-map (λ place. place.endpoint) found.spans i no_place d i_within) ∙ same ∙ get_or-map (λ place. place.endpoint) found.spans j no_place d j_within) in
    omega (arith, one))

-- each of them counts as one endpoint of the range
count_ends : (s : System) (w : WindowFields) (found : Found) → IsSystem s → KnownTree s.nodes → IsRegionIn s w found
    → count_of s (region_range found) (λ m. list_any (λ x. m == x) (ends found)) ≡ range_ways s (region_range found)
count_ends s w found system known is =
    count_parts s r (λ m. list_any (λ x. m == x) (ends found)) (λ x m. m == x) (ends found)
    (λ m end. sym (once (λ x. m == x) (λ a b one other. sym (eqb-true m a one) ∙ eqb-true m b other) (ends found) (ends_differ s w found system known is)))
    ∙ sym (mul-one (total (λ x. count_of s r (λ m. m == x)) (ends found)))
    ∙ total_even (λ x. count_of s r (λ m. m == x)) 1 1 (ends found) each
    ∙ mul-one (length (ends found)) ∙ length-map found.spans (λ place. place.endpoint) ∙ is.slots ∙ is.ways
  where
    r : Range
    r = region_range found

    each : All (λ x. count_of s r (λ m. m == x) * 1 ≡ 1) (ends found)
    each = λ k d within.
        let k_within : k < length found.spans = subst (λ (n : ℕ). k < n) (length-map found.spans (λ place. place.endpoint)) within in
        let p : Place = get_or found.spans k no_place in
        let place = slot_place s w found is k p (slice_get-get_or found.spans k no_place k_within) in
        let same : get_or (ends found) k d ≡ p.endpoint = get_or-map (λ place. place.endpoint) found.spans k no_place d k_within in
        mul-one (count_of s r (λ m. m == get_or (ends found) k d)) ∙ ap (λ (x : ℕ). count_of s r (λ m. m == x)) same ∙ one_there s r p.endpoint system place.endpoint

-- each endpoint of the range is a slot's
pub slot_for : RangesRise → (s : System) (w : WindowFields) (found : Found) → IsSystem s → KnownTree s.nodes → IsRegionIn s w found → (m : ℕ) → is_endpoint_of s (region_range found) m ≡ true
    → (slot : ℕ) × (place : Place) × (slice_get found.spans slot ≡ Some place) × (place.endpoint ≡ m)
slot_for rise s w found system known is m end =
    let some = Any-from_list_any (λ x. m == x) (ends found) there in
    let k : ℕ = some.0 in
    let within : k < length found.spans = subst (λ (n : ℕ). k < n) (length-map found.spans (λ place. place.endpoint)) some.2 in (
      k,
      get_or found.spans k no_place,
      slice_get-get_or found.spans k no_place within,
      sym (get_or-map (λ place. place.endpoint) found.spans k no_place 0 within) ∙ get_or_default (ends found) k 0 some.1 some.2 ∙ some.3 ∙ sym (eqb-true m some.1 some.4),
    )
  where
    r : Range
    r = region_range found

    one_of : (a b : Bool) → one (a && b) ≤ one (a && true)
    one_of true true = omega arith
    one_of true false = omega arith
    one_of false b = omega arith

    counts : count_of s r (λ m. list_any (λ x. m == x) (ends found)) ≡ count_of s r (λ m. true)
    counts = count_ends s w found system known is ∙ sym (counted_all rise s r w system known is.whole is.window is.committed) ∙ count_all s r

    all : All (λ m. one (is_endpoint_of s r m && list_any (λ x. m == x) (ends found)) ≡ one (is_endpoint_of s r m && true)) (numbers s)
    all =
        summands_same (λ m. one (is_endpoint_of s r m && list_any (λ x. m == x) (ends found))) (λ m. one (is_endpoint_of s r m && true))
        (λ m. one_of (is_endpoint_of s r m) (list_any (λ x. m == x) (ends found))) (numbers s) counts

    within : m < length s.nodes
    within = serves_within s r m system (and_parts (is_endpoint_at s.nodes m) (serves s r m) end).1

    at_m : one (is_endpoint_of s r m && list_any (λ x. m == x) (ends found)) ≡ one (is_endpoint_of s r m && true)
    at_m =
        subst (λ (k : ℕ). one (is_endpoint_of s r k && list_any (λ x. k == x) (ends found)) ≡ one (is_endpoint_of s r k && true))
        (get_or-range_with_len 0 (length s.nodes) m 0 within ∙ zero-add m)
        (all m 0 (subst (λ (n : ℕ). m < n) (sym (length-range_with_len 0 (length s.nodes))) within))

    told : (a b : Bool) → a ≡ true → one (a && b) ≡ one (a && true) → b ≡ true
    told true true is_a same = refl
    told true false is_a same = absurd (omega (arith, same))
    told false b is_a same = absurd (false≢true is_a)

    there : list_any (λ x. m == x) (ends found) ≡ true
    there = told (is_endpoint_of s r m) (list_any (λ x. m == x) (ends found)) end at_m
