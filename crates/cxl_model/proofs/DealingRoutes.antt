-- The chain of each host byte of a region is the route of its slot.
use Rattle.std.proofs.Common.{◌≡◌, ℕ, ◌+◌, ◌-◌, ◌*◌, ◌/◌, ◌%◌, ◌^◌, ◌<◌, ◌≤◌, Bool, true, false, not, ◌&&◌, ◌||◌, if◌then◌else◌, List, [], ◌++◌, get_or, map, reverse, Option, Some, None, refl, sym, ap, ◌∙◌, subst, inl, inr, arith}
use Rattle.std.specs.Prelude.{slice_get, nat_lt, nat_le, ◌==◌, IsTrue, IsSomeAnd, sum_by}
use Rattle.std.specs.List.{filter_map}
use Rattle.std.proofs.lemmas.Bool.{eqb-true, le-leb, lt-ltb, cases_lt}
use Rattle.std.proofs.lemmas.Option.{slice_get-get_or}
use Rattle.cxl_num.specs.Interleave.{chunk_size, factor_of}
use Rattle.cxl_enc.specs.Limits.{unit}
use Rattle.cxl_enc.specs.Codes.{is_ways, bits_of}
use Rattle.cxl_enc.proofs.Options.{some_and}
use Rattle.cxl_enc.proofs.Ways.{some_ways}
use Rattle.cxl_topo.specs.declared.node.Parent.{Parent}
use Rattle.cxl_topo.specs.Tree.{bridge_with, ports_above}
use Rattle.cxl_regs.specs.declared.decoder.Decoder.{Decoder}
use Rattle.cxl_regs.specs.declared.reading.Range.{Range}
use Rattle.cxl_regs.specs.Reading.{select_bits, decoder_ways}
use Rattle.cxl_window.specs.Fields.{WindowFields}
use Rattle.cxl_window.specs.Position.{is_usable, holds, position_of}
use Rattle.cxl_topo.proofs.Trees.{KnownTree, ports_none, uid_top}
use Rattle.cxl_deal.specs.Weaves.{WeaveFields, IsWeave, weave_ways, dealt_slot, dealt_offset}
use Rattle.cxl_model.specs.declared.chain.Step.{Step}
use Rattle.cxl_model.specs.declared.found.Found.{Found}
use Rattle.cxl_model.specs.declared.found.Place.{Place}
use Rattle.cxl_model.specs.System.{System, IsSystem}
use Rattle.cxl_model.specs.Chain.{Arrival, Arrives, Routing, Routed, Targets, Chain, held}
use Rattle.cxl_model.specs.Ranges.{decoder_for, product}
use Rattle.cxl_model.specs.Regions.{region_range, HasSpan, IsRegionIn, target_position, weave_fields, Carries}
use Rattle.cxl_model.specs.Dealing.{slot_step, slot_steps, IsDealtRoute}
use Rattle.cxl_model.proofs.Outcomes.{one_value}
use Rattle.cxl_model.proofs.RangeWindows.{HasWindow, has_window}
use Rattle.cxl_model.proofs.Weaving.{told, root_code}
use Rattle.cxl_model.proofs.DealingNumbers.{granularity_above, bits_parts}
use Rattle.cxl_model.proofs.DealingSteps.{Given, IsPower, power_at_place, Deals, goes_down}
use Rattle.cxl_model.proofs.DealingPositions.{PositionLaw, many_positions, one_position}
use Rattle.cxl_model.proofs.DealingEnds.{EndsAt, ends_at, Counts, counts, arrival_of, arrives, in_thirds}

-- what the law of dealing says of entries
abbrev pub EntryLaw : Type 0
EntryLaw =
    (v : WeaveFields) (h q p m : ℕ) → 2 ^ v.low_bits ≡ m * (q * p)
    → dealt_slot v h / (2 ^ v.root_bits * q) % p ≡ (h - v.base) / (chunk_size v.gran * 2 ^ v.root_bits * q) % p

-- what lower laws say of a tree, of dealing, and of a region's weave
pub record Lower (s : System) (w : WindowFields) (found : Found) : Type 0 where
  pub tree : KnownTree s.nodes
  pub positions : PositionLaw
  pub entries : EntryLaw
  pub few : (h : ℕ) → dealt_slot (weave_fields found w) h < weave_ways (weave_fields found w)
  pub weave : IsWeave (weave_fields found w)
  pub ways : weave_ways (weave_fields found w) ≡ found.ways

-- the entries of a slot are those of an address
entry_digits : (found : Found) (w : WindowFields) (h above own rest : ℕ) → EntryLaw → bits_of found.ways - bits_of w.ways ≡ above + own + rest
    → dealt_slot (weave_fields found w) h / (2 ^ bits_of w.ways * 2 ^ above) % 2 ^ own ≡ (h - found.base) / (256 * 2 ^ (found.gran + bits_of w.ways + above)) % 2 ^ own
entry_digits found w h above own rest law sum =
    law (weave_fields found w) h (2 ^ above) (2 ^ own) (2 ^ rest) (ap (λ (x : ℕ). 2 ^ x) sum ∙ bits_parts above own rest)
    ∙ ap (λ (x : ℕ). (h - found.base) / x % 2 ^ own) (granularity_above found.gran (bits_of w.ways) above)

-- ---- the window

-- the distance from the window's base is a multiple of 256 MiB, and in thirds of three times as much
distance : (w base : ℕ) (three : Bool) → w ≤ base → w % 2 ^ 28 ≡ 0 → base % 2 ^ 28 ≡ 0 → (not three || ((base - w) % (3 * 2 ^ 28) == 0)) ≡ true
    → (base - w) % (factor_of three * unit) ≡ 0
distance w base true from aligned base_aligned thirds = eqb-true ((base - w) % (3 * 2 ^ 28)) 0 thirds
distance w base false from aligned base_aligned thirds = omega arith

position_same : (s : System) (w : WindowFields) (found : Found) (h : ℕ) (place : Place) → Lower s w found → IsSystem s → IsRegionIn s w found
    → EndsAt s (region_range found) place → HasWindow s (region_range found) w → found.base ≤ h
    → position_of w h ≡ target_position w (dealt_slot (weave_fields found w) h)
position_same s w found h place lower system is at window above =
    let known = window.known.ways_known in
    let some = some_ways w.ways known in
    elim (cases_lt 1 w.ways) [
      | inl more ↦
          let aligned = window.usable.aligned in
          let thirds = in_thirds s w (region_range found) place.endpoint at.i at.d is.whole is.window at.owns in
          many_positions lower.positions found w h lower.weave (root_code s w found system is more) window.from above
          (distance w.base found.base (w.ways % 3 == 0) window.from aligned (told s w found system is).base thirds)
      | inr least ↦ one_position w h (dealt_slot (weave_fields found w) h) (omega arith)
    ]

-- ---- the bridge

-- nothing stands above a bridge
pub record IsTop (s : System) (w : WindowFields) (r : Range) (slot n : ℕ) : Type 0 where
  pub power : IsPower s r n
  pub steps : slot_steps s w r slot n ≡ []

top : (s : System) (w : WindowFields) (r : Range) (slot n uid : ℕ) → KnownTree s.nodes → bridge_with s.nodes uid ≡ Some n → IsTop s w r slot n
top s w r slot n uid known is =
    let nothing : ports_above s.nodes n ≡ [] = ports_none known n (uid_top known n uid ((known.laws.bridges uid n).0 is)).1 in
    let own_decoders : List Parent → List Decoder = λ ports. filter_map (λ parent. decoder_for s r parent.node) ports in
    record {
      power = subst (λ (ports : List Parent). product (map decoder_ways (own_decoders ports)) ≡ 2 ^ sum_by (λ d. select_bits d.ways) (own_decoders ports)) (sym nothing) refl;
      steps = ap (λ (ports : List Parent). reverse (filter_map (λ parent. slot_step s w r slot parent.node) ports)) nothing;
    }

-- ---- a slot

pub record AtSlot (s : System) (w : WindowFields) (found : Found) (slot : ℕ) : Type 0 where
  pub place : Place
  pub there : slice_get found.spans slot ≡ Some place
  pub span : HasSpan s w (region_range found) slot place
  pub top : IsTop s w (region_range found) slot span.bridge
  pub at : EndsAt s (region_range found) place
  pub counted : Counts s w found place.endpoint at.d

given_of : (s : System) (w : WindowFields) (found : Found) → Lower s w found → IsSystem s → IsRegionIn s w found → Given s w (region_range found)
given_of s w found lower system is = record { laws = lower.tree.laws; caps = system.caps; whole = is.whole; window = is.window }

pub at_slot : (s : System) (w : WindowFields) (found : Found) (slot : ℕ) → Lower s w found → IsSystem s → IsRegionIn s w found → IsTrue (is_ways w.ways)
    → slot < found.ways → AtSlot s w found slot
at_slot s w found slot lower system is known few =
    let r : Range = region_range found in
    let slots = is.slots in
    let any : Place = record { endpoint = 0; start = 0 } in
    let place : Place = get_or found.spans slot any in
    let there : slice_get found.spans slot ≡ Some place = slice_get-get_or found.spans slot any (omega (arith, few, slots)) in
    let span : HasSpan s w r slot place = is.spans slot place there in
    let target = some_and (slice_get w.targets (target_position w slot)) (λ (uid : ℕ). bridge_with s.nodes uid ≡ Some span.bridge) span.target in
    let above : IsTop s w r slot span.bridge = top s w r slot span.bridge target.0 lower.tree target.2 in
    let at = ends_at s w r slot span.bridge place span.leads in
    let power = power_at_place s w r slot span.bridge place (given_of s w found lower system is) span.leads above.power in
    record { place = place; there = there; span = span; top = above; at = at; counted = counts s w found place at is known power }

-- ---- the route

pub record HasRoute (s : System) (w : WindowFields) (found : Found) (h : ℕ) : Type 0 where
  pub route : Routing
  pub chain : Chain s h (Routed route)
  pub dealt : IsDealtRoute s w found h route

by_slot : (s : System) (w : WindowFields) (found : Found) (h : ℕ) → Lower s w found → IsSystem s → IsRegionIn s w found → found.base ≤ h → h < found.base + found.size
    → HasWindow s (region_range found) w → AtSlot s w found (dealt_slot (weave_fields found w) h) → HasRoute s w found h
by_slot s w found h lower system is from below window at =
    let r : Range = region_range found in
    let weave : WeaveFields = weave_fields found w in
    let slot : ℕ = dealt_slot weave h in
    let place : Place = at.place in
    let bridge : ℕ = at.span.bridge in
    let arrival : Arrival = arrival_of w found h place at.at.i in
    let deals : Deals s w r slot h place.endpoint found.gran = record {
      from = from;
      below = below;
      digits = λ above own rest sum. entry_digits found w h above own rest lower.entries (at.counted.low ∙ sum);
      code = at.counted.code;
    } in
    let goes = goes_down s w r slot h bridge found.gran place arrival (given_of s w found lower system is) deals
    (arrives s w found h place at.at is.whole lower.ways at.counted from below) at.span.leads at.top.power in
    let position = position_same s w found h place lower system is at.at window from in
    let low = window.from in
    let high = window.to in
    let usable = ap is_usable window.verdict in
    let from_test : nat_le w.base h ≡ true = le-leb w.base h (omega (arith, low, from)) in
    let below_test : nat_lt h (w.base + w.size) ≡ true = lt-ltb h (w.base + w.size) (omega (arith, high, below)) in
    let test : (is_usable w.verdict && holds w h) ≡ true = rw (usable, from_test, below_test) refl in
    let targets : Targets s h w (target_position w slot) bridge = record {
      there = window.there;
      holds = ap (λ (b : Bool). if b then Some (position_of w h) else None) test ∙ ap Some position;
      target = at.span.target;
    } in
    record {
      route = record { window = w.index; position = target_position w slot; steps = goes.steps; arrival = arrival };
      chain = held w (target_position w slot) bridge goes.steps (Arrives arrival) targets goes.walk refl;
      dealt = record {
        window = refl;
        position = sym position;
        slot = refl;
        steps = ap (λ (steps : List Step). steps ++ goes.steps) (sym at.top.steps) ∙ goes.all;
        decoder = at.at.owns.index;
        base = refl;
        place = record {
          from = from;
          below = below;
          place = subst (λ (o : Option Place). IsSomeAnd o (λ p. (p.endpoint ≡ place.endpoint) × (p.start + dealt_offset weave h ≡ arrival.dpa))) (sym at.there) (refl, refl);
        };
      };
    }

pub route_of : (s : System) (w : WindowFields) (found : Found) (h : ℕ) → Lower s w found → IsSystem s → IsRegionIn s w found → found.base ≤ h → h < found.base + found.size
    → HasRoute s w found h
route_of s w found h lower system is from below =
    let window = has_window s (region_range found) w system is.window in
    let known = window.known.ways_known in
    let few = lower.few h in
    let all = lower.ways in
    by_slot s w found h lower system is from below window (at_slot s w found (dealt_slot (weave_fields found w) h) lower system is known (omega (arith, few, all)))

-- ---- what is carried

pub carried_once : (found : Found) (w : WindowFields) (h endpoint dpa other place : ℕ) → Carries found w h endpoint dpa → Carries found w h other place
    → (endpoint ≡ other) × (dpa ≡ place)
carried_once found w h endpoint dpa other place one two =
    let slot : ℕ = dealt_slot (weave_fields found w) h in
    let offset : ℕ = dealt_offset (weave_fields found w) h in
    let a = some_and (slice_get found.spans slot) (λ (p : Place). (p.endpoint ≡ endpoint) × (p.start + offset ≡ dpa)) one.place in
    let b = some_and (slice_get found.spans slot) (λ (p : Place). (p.endpoint ≡ other) × (p.start + offset ≡ place)) two.place in
    let same : a.0 ≡ b.0 = one_value (slice_get found.spans slot) a.0 b.0 a.1 b.1 in
    (sym a.2.0 ∙ ap (λ (p : Place). p.endpoint) same ∙ b.2.0, sym a.2.1 ∙ ap (λ (p : Place). p.start + offset) same ∙ b.2.1)
