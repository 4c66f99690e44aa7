-- The routes of a region's host bytes follow from those of the first byte of each slot.
use Rattle.std.proofs.Common.{◌≡◌, ℕ, zero, suc, ◌+◌, ◌*◌, ◌/◌, ◌%◌, ◌^◌, ◌<◌, ◌≤◌, Bool, true, false, List, [], ◌∷◌, ◌++◌, length, get_or, Option, Some, None, refl, sym, ap, subst, ◌∙◌, inl, inr, arith}
use Rattle.std.specs.Prelude.{slice_get, nat_le, nat_lt, ◌==◌, ◌&&◌, ◌||◌, not, find, Result, Ok, Err}
use Rattle.std.specs.Result.{IsOk}
use Rattle.std.specs.Option.{option_map_or}
use Rattle.std.proofs.Math.Nat.{mul-pos, zero-div, div-mul-le_self, mul-le-mul_right}
use Rattle.std.proofs.lemmas.Nat.{pow_pos}
use Rattle.std.proofs.lemmas.Bool.{false≢true, and_parts, or_parts, leb-true, eqb-true, eq-eqb, cases_lt, cases_Bool}
use Rattle.std.proofs.lemmas.Option.{slice_get-get_or, same_Some}
use Rattle.cxl_num.specs.Interleave.{chunk_size}
use Rattle.cxl_topo.specs.Faults.{IsTree}
use Rattle.cxl_regs.specs.declared.decoder.Decoder.{Decoder}
use Rattle.cxl_regs.specs.declared.reading.Range.{Range}
use Rattle.cxl_regs.specs.Registers.{Registers}
use Rattle.cxl_regs.specs.Reading.{has_range}
use Rattle.cxl_span.specs.Breaches.{breaks as block_breaks}
use Rattle.cxl_enc.specs.Limits.{address_limit}
use Rattle.cxl_enc.proofs.Options.{some_and}
use Rattle.cxl_enc.proofs.Lists.{All-at, some_passes}
use Rattle.cxl_enc.proofs.Numbers.{some_first_factor}
use Rattle.cxl_span.specs.Rules.{size_unit}
use Rattle.cxl_span.specs.Partitions.{partition_start, partition_end, lies_in}
use Rattle.cxl_window.specs.Fields.{WindowFields, IsWindow}
use Rattle.cxl_window.specs.Position.{is_usable}
use Rattle.cxl_window.proofs.Usable.{usable_is}
use Rattle.cxl_span.proofs.Ends.{partition_ends}
use Rattle.cxl_deal.specs.Weaves.{WeaveFields, weave_ways, turns_end, dealt_slot, dealt_offset}
use Rattle.cxl_model.specs.declared.chain.Step.{Step}
use Rattle.cxl_model.specs.declared.chain.Miss.{Miss}
use Rattle.cxl_model.specs.declared.found.Found.{Found}
use Rattle.cxl_model.specs.declared.found.Place.{Place}
use Rattle.cxl_model.specs.System.{System, IsSystem, decoders_at, decoder_at, ram_at, pmem_at}
use Rattle.cxl_model.specs.Chain.{Arrival, Routing, ChainEnd, Routed, Missed, Chain}
use Rattle.cxl_model.specs.Ranges.{lies_within, index_for}
use Rattle.cxl_model.specs.Accepted.{KeepsBlocks, breaks}
use Rattle.cxl_model.specs.Regions.{region_range, IsRegionIn, target_position, weave_fields}
use Rattle.cxl_model.specs.Bytes.{slot_length}
use Rattle.cxl_model.specs.Dealing.{slot_steps, IsDealtRoute}
use Rattle.cxl_model.proofs.SpansLow.{device_low}
use Rattle.cxl_walk.specs.declared.route.Route.{Route}
use Rattle.cxl_walk.specs.Routes.{routing_of, chain_end_of}
use Rattle.cxl_walk.specs.Keeping.{KeptFields, IsFirstByte, IsSlotRoute}

-- ---- lists

find_at_place : {X : Type 0} (p : X → Bool) (xs : List X) (y : X) → find p xs ≡ Some y → (i : ℕ) × (slice_get xs i ≡ Some y) × (p y ≡ true)
find_at_place p [] y is = cc
find_at_place p (x ∷ xs) y is =
    elim (cases_Bool (p x)) [
      | inl own ↦
          let same : Some x ≡ Some y = rw own at is in
          (zero, same, ap p (sym (same_Some x y same)) ∙ own)
      | inr other ↦ let later = find_at_place p xs y (rw other at is) in (suc later.0, later.1, later.2)
    ]

-- the route that stands at a slot
pub route_there : (kept : KeptFields) (routes : List Route) (slot : ℕ) (r : Route) → routes ≡ kept.routes → slot < length kept.routes → r ≡ get_or routes slot r → slice_get kept.routes slot ≡ Some r
route_there kept routes slot r same within is =
    slice_get-get_or kept.routes slot r within ∙ ap (λ (x : Route). Some x) (ap (λ (xs : List Route). get_or xs slot r) (sym same) ∙ sym is)

-- what holds of each item and of one more
pub one_more : {X : Type 0} (P : ℕ → X → Type 0) (xs : List X) (x : X) → ((k : ℕ) (y : X) → slice_get xs k ≡ Some y → P k y) → P (length xs) x
    → (k : ℕ) (y : X) → slice_get (xs ++ (x ∷ [])) k ≡ Some y → P k y
one_more P [] x all own zero y is = subst (P 0) (same_Some x y is) own
one_more P [] x all own (suc k) y is = cc
one_more P (a ∷ xs) x all own zero y is = all zero y is
one_more P (a ∷ xs) x all own (suc k) y is = one_more (λ n. P (suc n)) xs x (λ n. all (suc n)) own k y is

-- ---- a region's range

decoder_size : (block : Registers) (ram pmem i : ℕ) (d : Decoder) → slice_get block.decoders i ≡ Some d → d.committed ≡ true → block_breaks 6 block ram pmem i ≡ false → 0 < d.size
unfolding block_breaks
decoder_size block ram pmem i d there committed kept =
    let own = rw (there, committed) at kept in
    let long = or_parts (d.size == 0 || nat_lt address_limit (d.base + d.size)) (block.endpoint && not (d.size % size_unit d == 0)) own in
    let none = (or_parts (d.size == 0) (nat_lt address_limit (d.base + d.size)) long.0).0 in
    elim (cases_lt 0 d.size) [
      | inl some ↦ some
      | inr least ↦ absurd (false≢true (sym none ∙ eq-eqb d.size 0 (omega arith)))
    ]

range_size : (s : System) (n i : ℕ) (d : Decoder) → KeepsBlocks s → decoder_at s n i ≡ Some d → d.committed ≡ true → 0 < d.size
unfolding breaks
range_size s n i d keeps there committed = go (slice_get s.blocks n) there (keeps 6 n i (omega arith))
  where
    go : (o : Option Registers) → slice_get (option_map_or (λ block. block.decoders) o []) i ≡ Some d
        → option_map_or (λ block. block_breaks 6 block (ram_at s n) (pmem_at s n) i) o false ≡ false → 0 < d.size
    go None at kept = cc
    go (Some block) at kept = decoder_size block (ram_at s n) (pmem_at s n) i d at committed kept

pub record RegionFacts (s : System) (w : WindowFields) (found : Found) : Type 0 where
  pub there : slice_get s.windows w.index ≡ Some w
  pub some : 0 < found.size
  pub low : found.base + found.size ≤ 2 ^ 52

pub facts : (s : System) (w : WindowFields) (found : Found) → IsSystem s → IsRegionIn s w found → RegionFacts s w found
facts s w found system region =
    let r : Range = region_range found in
    let at = find_at_place (lies_within r) s.windows w region.window in
    let outer = and_parts (is_usable w.verdict && nat_le w.base r.base) (nat_le (r.base + r.size) (w.base + w.size)) at.2 in
    let verdict = usable_is w.verdict (and_parts (is_usable w.verdict) (nat_le w.base r.base) outer.0).0 in
    let own : IsWindow w = All-at IsWindow s.windows at.0 w at.1 system.made.each in
    let low = (own.usable verdict).low in
    let to : r.base + r.size ≤ w.base + w.size = leb-true (r.base + r.size) (w.base + w.size) outer.1 in
    let server = some_passes (has_range r) (decoders_at s region.committed.0) region.committed.1 in
    let d : Decoder = server.1 in
    let has = and_parts (d.committed && (d.base == r.base)) (d.size == r.size) server.3 in
    let committed = (and_parts d.committed (d.base == r.base) has.0).0 in
    let size : d.size ≡ r.size = eqb-true d.size r.size has.1 in
    let some : 0 < d.size = range_size s region.committed.0 server.0 d region.whole.blocks server.2 committed in
    record {
      there = ap (slice_get s.windows) (system.made.indexed at.0 w at.1) ∙ at.1;
      some = omega (arith, some, size);
      low = omega (arith, low, to);
    }

-- ---- the turns of its weave

-- what the laws of weaves and of dealing say of a region
pub record WeaveLaws (s : System) (w : WindowFields) (found : Found) : Type 0 where
  pub ways : weave_ways (weave_fields found w) ≡ found.ways
  pub turns : turns_end (weave_fields found w) (slot_length found / chunk_size found.gran) ≡ found.base + found.size
  pub lands : (n h : ℕ) → found.base ≤ h → h < turns_end (weave_fields found w) n → dealt_offset (weave_fields found w) h < n * chunk_size found.gran
  pub within : (n h : ℕ) → found.base ≤ h → dealt_offset (weave_fields found w) h < n * chunk_size found.gran → h < turns_end (weave_fields found w) n

module _ (s : System) (w : WindowFields) (found : Found) (known : RegionFacts s w found) (laws : WeaveLaws s w found) where
  has_turns : 0 < slot_length found / chunk_size found.gran
  has_turns =
      some_first_factor (slot_length found / chunk_size found.gran) (weave_ways (weave_fields found w)) (chunk_size found.gran) found.size (omega (arith, laws.turns)) known.some

  -- there is room for one turn
  pub first_turn : turns_end (weave_fields found w) (0 / chunk_size found.gran + 1) ≤ 2 ^ 52
  first_turn =
      let n : ℕ = slot_length found / chunk_size found.gran in
      let ways : ℕ = weave_ways (weave_fields found w) in
      let c : ℕ = chunk_size found.gran in
      let one : 0 / c + 1 ≤ n = omega (arith, zero-div c, has_turns) in
      let up : (0 / c + 1) * ways * c ≤ n * ways * c = mul-le-mul_right c (mul-le-mul_right ways one) in
      omega (arith, up, laws.turns, known.low)

  -- an address at offset 0 lies in the region
  pub first_below : (h : ℕ) → found.base ≤ h → dealt_offset (weave_fields found w) h ≡ 0 → h < found.base + found.size
  first_below h from start =
      let n : ℕ = slot_length found / chunk_size found.gran in
      let c : ℕ = chunk_size found.gran in
      let some : 0 < c = mul-pos (omega arith) (pow_pos found.gran) in
      let room : 0 < n * c = mul-pos has_turns some in
      subst (λ (x : ℕ). h < x) laws.turns (laws.within n h from (omega (arith, start, room)))

  -- an offset lies in the slot's span
  pub in_slot : (h : ℕ) → found.base ≤ h → h < found.base + found.size → dealt_offset (weave_fields found w) h < slot_length found
  in_slot h from below =
      let landed = laws.lands (slot_length found / chunk_size found.gran) h from (subst (λ (x : ℕ). h < x) (sym laws.turns) below) in
      omega (arith, landed, div-mul-le_self (slot_length found) (chunk_size found.gran))

-- ---- the end of a device

pub span_low : (s : System) (found : Found) (place : Place) → IsTree s.nodes → lies_in found.kind (ram_at s place.endpoint) (pmem_at s place.endpoint) place.start (slot_length found) ≡ true
    → place.start + slot_length found ≤ 2 ^ 52
span_low s found place tree inside =
    let n : ℕ = place.endpoint in
    let last : ℕ = partition_end found.kind (ram_at s n) (pmem_at s n) in
    let ends : place.start + slot_length found ≤ last =
    leb-true (place.start + slot_length found) last (and_parts (nat_le (partition_start found.kind (ram_at s n)) place.start) (nat_le (place.start + slot_length found) last) inside).1 in
    omega (arith, ends, partition_ends found.kind (ram_at s n) (pmem_at s n), device_low s n tree)

-- ---- the routes of a slot

pub same_routing : (a b : Routing) → a.window ≡ b.window → a.position ≡ b.position → a.steps ≡ b.steps → a.arrival.endpoint ≡ b.arrival.endpoint → a.arrival.decoder ≡ b.arrival.decoder
    → a.arrival.base ≡ b.arrival.base → a.arrival.dpa ≡ b.arrival.dpa → a ≡ b
same_routing a b window position steps endpoint decoder base dpa =
    let arrivals : record { endpoint = a.arrival.endpoint; decoder = a.arrival.decoder; base = a.arrival.base; dpa = a.arrival.dpa } ≡ b.arrival =
    ap (λ (x : ℕ). record { endpoint = x; decoder = a.arrival.decoder; base = a.arrival.base; dpa = a.arrival.dpa }) endpoint
    ∙ ap (λ (x : ℕ). record { endpoint = b.arrival.endpoint; decoder = x; base = a.arrival.base; dpa = a.arrival.dpa }) decoder
    ∙ ap (λ (x : ℕ). record { endpoint = b.arrival.endpoint; decoder = b.arrival.decoder; base = x; dpa = a.arrival.dpa }) base
    ∙ ap (λ (x : ℕ). record { endpoint = b.arrival.endpoint; decoder = b.arrival.decoder; base = b.arrival.base; dpa = x }) dpa in
    ap (λ (x : ℕ). record { window = x; position = a.position; steps = a.steps; arrival = a.arrival }) window
    ∙ ap (λ (x : ℕ). record { window = b.window; position = x; steps = a.steps; arrival = a.arrival }) position
    ∙ ap (λ (x : List Step). record { window = b.window; position = b.position; steps = x; arrival = a.arrival }) steps
    ∙ ap (λ (x : Arrival). record { window = b.window; position = b.position; steps = b.steps; arrival = x }) arrivals

-- a route so many bytes on
abbrev pub moved : Routing → ℕ → Routing
moved r offset =
    record {
      window = r.window;
      position = r.position;
      steps = r.steps;
      arrival = record { endpoint = r.arrival.endpoint; decoder = r.arrival.decoder; base = r.arrival.base; dpa = r.arrival.dpa + offset };
    }

module _ (s : System) (w : WindowFields) (found : Found) where
  abbrev HasPlace : ℕ → ℕ → ℕ → Place → Type 0
  HasPlace h endpoint dpa place = (place.endpoint ≡ endpoint) × (place.start + dealt_offset (weave_fields found w) h ≡ dpa)

  pub on_slot : (slot first h : ℕ) (a b : Routing) → IsFirstByte found w slot first → IsDealtRoute s w found first a → IsDealtRoute s w found h b
      → dealt_slot (weave_fields found w) h ≡ slot → b ≡ moved a (dealt_offset (weave_fields found w) h)
  on_slot slot first h a b is one other here =
      let v : WeaveFields = weave_fields found w in
      let slots : dealt_slot v h ≡ dealt_slot v first = here ∙ sym is.of_slot in
      let p = some_and (slice_get found.spans (dealt_slot v first)) (HasPlace first a.arrival.endpoint a.arrival.dpa) one.place.place in
      let q = some_and (slice_get found.spans (dealt_slot v h)) (HasPlace h b.arrival.endpoint b.arrival.dpa) other.place.place in
      let place : q.0 ≡ p.0 = same_Some q.0 p.0 (sym q.1 ∙ ap (λ (k : ℕ). slice_get found.spans k) slots ∙ p.1) in
      let endpoint : b.arrival.endpoint ≡ a.arrival.endpoint = sym q.2.0 ∙ ap (λ (x : Place). x.endpoint) place ∙ p.2.0 in
      let starts : q.0.start ≡ p.0.start = ap (λ (x : Place). x.start) place in
      same_routing b (moved a (dealt_offset v h)) (other.window ∙ sym one.window)
      (other.slot ∙ ap (λ (k : ℕ). target_position w k) slots ∙ sym one.slot)
      (other.steps ∙ ap (λ (k : ℕ). slot_steps s w (region_range found) k b.arrival.endpoint) slots ∙ ap (λ (n : ℕ). slot_steps s w (region_range found) (dealt_slot v first) n) endpoint ∙ sym one.steps)
      endpoint
      (same_Some b.arrival.decoder a.arrival.decoder (sym other.decoder ∙ ap (λ (n : ℕ). index_for s (region_range found) n) endpoint ∙ one.decoder))
      (other.base ∙ sym one.base)
      (omega (arith, q.2.1, p.2.1, starts, is.at_start))

-- ---- the route of each byte

-- what the law of dealing says of a region
pub record RouteLaws (s : System) (w : WindowFields) (found : Found) : Type 0 where
  pub route : (h : ℕ) → found.base ≤ h → h < found.base + found.size → (r : Routing) × Chain s h (Routed r) × IsDealtRoute s w found h r
  pub only : (h : ℕ) (outcome : ChainEnd) → found.base ≤ h → h < found.base + found.size → Chain s h outcome → (r : Routing) × (outcome ≡ Routed r) × IsDealtRoute s w found h r

module _ (s : System) (w : WindowFields) (found : Found) (laws : RouteLaws s w found) where
  dealt_by : (h : ℕ) (r : Routing) → found.base ≤ h → h < found.base + found.size → Chain s h (Routed r) → IsDealtRoute s w found h r
  dealt_by h r from below chain =
      let all = laws.only h (Routed r) from below chain in
      let same : r ≡ all.0 = cc (all.1) in
      subst (λ (x : Routing). IsDealtRoute s w found h x) (sym same) all.2

  pub routed : (slot h offset : ℕ) (route : Route) → IsSlotRoute s w found slot route → found.base ≤ h → h < found.base + found.size → slot ≡ dealt_slot (weave_fields found w) h
      → offset ≡ dealt_offset (weave_fields found w) h → Chain s h (Routed (moved (routing_of route) offset))
  routed slot h offset route own from below here far =
      let all = laws.route h from below in
      let one = dealt_by own.first (routing_of route) own.is.from own.is.below own.chain in
      let same = on_slot s w found slot own.first h (routing_of route) all.0 own.is one all.2 (sym here) in
      subst (λ (r : Routing). Chain s h (Routed r)) (same ∙ ap (λ (k : ℕ). moved (routing_of route) k) (sym far)) all.1

  -- where the device byte of a slot's route lies
  pub device_byte : (slot : ℕ) (route : Route) → IsSlotRoute s w found slot route → (place : Place) × (slice_get found.spans slot ≡ Some place) × (place.start ≡ route.dpa)
  device_byte slot route own =
      let one = dealt_by own.first (routing_of route) own.is.from own.is.below own.chain in
      let p = some_and (slice_get found.spans (dealt_slot (weave_fields found w) own.first)) (HasPlace s w found own.first route.endpoint route.dpa) one.place.place in
      (p.0, ap (λ (k : ℕ). slice_get found.spans k) (sym own.is.of_slot) ∙ p.1, omega (arith, p.2.1, own.is.at_start))

  -- the chain of a host byte is no miss
  pub found_route : (h : ℕ) (o : Result Route Miss) → found.base ≤ h → h < found.base + found.size → Chain s h (chain_end_of o) → IsOk o
  found_route h (Ok route) from below chain = refl
  found_route h (Err miss) from below chain = let all = laws.only h (Missed miss) from below chain in cc (all.1)
