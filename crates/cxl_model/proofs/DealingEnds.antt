-- Where a slot's span ends, and what its endpoint's decoder tells of the ways, the code and the offsets of the region.
use Rattle.std.proofs.Common.{◌≡◌, ℕ, ◌+◌, ◌-◌, ◌*◌, ◌/◌, ◌%◌, ◌^◌, ◌<◌, ◌≤◌, ◌⊎◌, Bool, true, false, not, ◌&&◌, ◌||◌, if◌then◌else◌, Option, Some, refl, sym, ap, ◌∙◌, subst, inl, inr, arith}
use Rattle.std.specs.Prelude.{◌==◌, IsTrue, IsSomeAnd}
use Rattle.std.specs.Option.{option_map_or}
use Rattle.std.proofs.Math.Nat.{add_assoc}
use Rattle.std.proofs.lemmas.Bool.{and_parts, eqb-true, ne_eqb}
use Rattle.cxl_num.specs.Interleave.{chunk_size}
use Rattle.cxl_enc.specs.Codes.{is_ways, bits_of}
use Rattle.cxl_enc.proofs.Options.{some_and}
use Rattle.cxl_enc.proofs.Ways.{some_ways}
use Rattle.cxl_enc.proofs.Tests.{asked}
use Rattle.cxl_topo.specs.Tree.{is_endpoint_at}
use Rattle.cxl_regs.specs.declared.decoder.Decoder.{Decoder}
use Rattle.cxl_regs.specs.declared.reading.Range.{Range}
use Rattle.cxl_regs.specs.Reading.{decoder_ways, decoder_granularity}
use Rattle.cxl_span.specs.Spans.{span_start_of, endpoint_place_of}
use Rattle.cxl_window.specs.Fields.{WindowFields}
use Rattle.cxl_regs.proofs.DecoderRanges.{Has, has_parts, same_range}
use Rattle.cxl_deal.specs.Weaves.{weave_ways, dealt_offset}
use Rattle.cxl_model.specs.declared.found.Found.{Found}
use Rattle.cxl_model.specs.declared.found.Place.{Place}
use Rattle.cxl_model.specs.System.{System, decoders_at, decoder_at}
use Rattle.cxl_model.specs.Chain.{Arrival, Places, IsArrival}
use Rattle.cxl_model.specs.Ranges.{index_for, window_for, bits_above, span_kind, range_code}
use Rattle.cxl_model.specs.Rules.{keeps_window, starts_in_thirds, permits}
use Rattle.cxl_model.specs.Accepted.{breaks, IsWhole}
use Rattle.cxl_model.specs.Regions.{LeadsTo, past_forwarding, past_port, at_endpoint, region_range, IsRegionIn, weave_fields}
use Rattle.cxl_model.proofs.Weaving.{found_ways_known}
use Rattle.cxl_model.proofs.RangeServers.{has_ways}
use Rattle.cxl_model.proofs.DealingNumbers.{bits_more, not_one, offset_same, offset_whole}
use Rattle.cxl_model.proofs.DealingNodes.{keeps_own_block, Owns, owns_index, own_node}
use Rattle.cxl_model.proofs.DealingSteps.{IsPower, in_range}

-- ---- the endpoint

-- the place is the start of the span of the endpoint's decoder of the range
pub record EndsAt (s : System) (r : Range) (place : Place) : Type 0 where
  pub endpoint : is_endpoint_at s.nodes place.endpoint ≡ true
  pub i : ℕ
  pub d : Decoder
  pub owns : Owns s r place.endpoint i d
  pub start : place.start ≡ span_start_of (decoders_at s place.endpoint) i

pub ends_at : (s : System) (w : WindowFields) (r : Range) (slot n : ℕ) (place : Place) → LeadsTo s w r slot n place → EndsAt s r place
ends_at s w r slot n place (past_forwarding _ child _ forwards first leads) = ends_at s w r slot child place leads
ends_at s w r slot n place (past_port _ child _ own port way leads) = ends_at s w r slot child place leads
ends_at s w r slot n place (at_endpoint _ endpoint start) =
    let index = some_and (index_for s r place.endpoint) (λ (i : ℕ). place.start ≡ span_start_of (decoders_at s place.endpoint) i) start in
    let owner = owns_index s r place.endpoint index.0 index.1 in
    record { endpoint = endpoint; i = index.0; d = owner.0; owns = owner.1; start = index.2 }

-- ---- what its decoder tells of the region

pub record Counts (s : System) (w : WindowFields) (found : Found) (endpoint : ℕ) (d : Decoder) : Type 0 where
  pub ways : found.ways ≡ decoder_ways d
  pub low : bits_of found.ways - bits_of w.ways ≡ bits_above s (region_range found) endpoint
  pub code : 0 < bits_above s (region_range found) endpoint → found.gran ≡ range_code s w (region_range found)
  pub own : (decoder_ways d ≡ 1) ⊎ (d.gran ≡ found.gran)

-- a region of more than one way has the range's code
many_ways : (found : Found) (code : ℕ) → found.gran ≡ (if found.ways == 1 then 0 else code) → (found.ways == 1) ≡ false → found.gran ≡ code
many_ways found code is many = is ∙ ap (λ (b : Bool). if b then 0 else code) many

pub counts : (s : System) (w : WindowFields) (found : Found) (place : Place) (at : EndsAt s (region_range found) place) → IsRegionIn s w found
    → IsTrue (is_ways w.ways) → IsPower s (region_range found) place.endpoint → Counts s w found place.endpoint at.d
counts s w found place at is known power =
    let r : Range = region_range found in
    let n : ℕ = place.endpoint in
    let d : Decoder = at.d in
    let above : ℕ = bits_above s r n in
    let has = has_ways s w r n at.i d is.whole is.window (record { endpoint = at.endpoint; there = at.owns.there; has = at.owns.has }) in
    let ways : found.ways ≡ decoder_ways d = is.ways ∙ sym has.ways in
    let product : found.ways ≡ w.ways * 2 ^ above = ways ∙ has.product ∙ ap (λ (x : ℕ). w.ways * x) power in
    let bits : bits_of found.ways ≡ bits_of w.ways + above =
    ap bits_of product ∙ bits_more w.ways above known (subst (λ (x : ℕ). IsTrue (is_ways x)) product (found_ways_known s w found is)) in
    record {
      ways = ways;
      low = omega (arith, bits);
      code = λ more. many_ways found (range_code s w r) is.code (ne_eqb found.ways 1 (not_one w.ways above found.ways (some_ways w.ways known) more product));
      own = elim has.code [
        | inl one ↦ inl one
        | inr same ↦ elim (found.ways == 1) as (λ b. (found.ways == 1) ≡ b → (decoder_ways d ≡ 1) ⊎ (d.gran ≡ found.gran)) [
          | true ↦ λ one. inl (sym ways ∙ eqb-true found.ways 1 one)
          | false ↦ λ many. inr (same ∙ sym (many_ways found (range_code s w r) is.code many))
        ] refl
      ];
    }

-- ---- the arrival

offset_at : (s : System) (w : WindowFields) (found : Found) (h endpoint : ℕ) (d : Decoder) → weave_ways (weave_fields found w) ≡ found.ways → Counts s w found endpoint d → Has (region_range found) d
    → dealt_offset (weave_fields found w) h
    ≡ (h - d.base) / (decoder_granularity d * decoder_ways d) * decoder_granularity d + (h - d.base) % decoder_granularity d
offset_at s w found h endpoint d all counts has =
    let o : ℕ = h - found.base in
    let g : ℕ = chunk_size found.gran in
    let ways : weave_ways (weave_fields found w) ≡ decoder_ways d = all ∙ counts.ways in
    let by_ways : dealt_offset (weave_fields found w) h ≡ o / g / decoder_ways d * g + o % g = ap (λ (x : ℕ). o / g / x * g + o % g) ways in
    let from_base = ap (λ (b : ℕ). (h - b) / (decoder_granularity d * decoder_ways d) * decoder_granularity d + (h - b) % decoder_granularity d) has.base in
    elim counts.own [
      | inl one ↦ by_ways ∙ ap (λ (x : ℕ). o / g / x * g + o % g) one
          ∙ sym (from_base ∙ ap (λ (x : ℕ). o / (decoder_granularity d * x) * decoder_granularity d + o % decoder_granularity d) one ∙ offset_whole o (decoder_granularity d) g)
      | inr same ↦ by_ways ∙ sym (from_base ∙ ap (λ (e : ℕ). o / (256 * 2 ^ e * decoder_ways d) * (256 * 2 ^ e) + o % (256 * 2 ^ e)) same ∙ offset_same o g (decoder_ways d))
    ]

-- the byte to which the region carries the address
abbrev pub arrival_of : WindowFields → Found → ℕ → Place → ℕ → Arrival
arrival_of w found h place i =
    record { endpoint = place.endpoint; decoder = i; base = found.base; dpa = place.start + dealt_offset (weave_fields found w) h }

pub arrives : (s : System) (w : WindowFields) (found : Found) (h : ℕ) (place : Place) (at : EndsAt s (region_range found) place)
    → IsWhole s (region_range found) → weave_ways (weave_fields found w) ≡ found.ways → Counts s w found place.endpoint at.d → found.base ≤ h → h < found.base + found.size
    → IsArrival s h place.endpoint (arrival_of w found h place at.i)
arrives s w found h place at whole all counts from below =
    let r : Range = region_range found in
    let n : ℕ = place.endpoint in
    let d : Decoder = at.d in
    let arrival : Arrival = arrival_of w found h place at.i in
    let has = has_parts r d at.owns.has in
    let place_is : arrival.dpa ≡ endpoint_place_of (span_start_of (decoders_at s n) at.i) d h =
    ap (λ (x : ℕ). place.start + x) (offset_at s w found h n d all counts has)
    ∙ ap (λ (x : ℕ). x + ((h - d.base) / (decoder_granularity d * decoder_ways d) * decoder_granularity d + (h - d.base) % decoder_granularity d)) at.start
    ∙ sym (add_assoc (span_start_of (decoders_at s n) at.i) ((h - d.base) / (decoder_granularity d * decoder_ways d) * decoder_granularity d) ((h - d.base) % decoder_granularity d)) in
    let places : Places s h n arrival d = record { holds = in_range r d h at.owns.has from below; base = sym has.base; dpa = place_is } in
    record {
      here = refl;
      endpoint = at.endpoint;
      decodes = record { own = own_node s r n at.i d whole at.owns; sound = keeps_own_block s n whole.blocks };
      place = subst (λ (o : Option Decoder). IsSomeAnd o (Places s h n arrival)) (sym at.owns.there) places;
    }

-- ---- K9: where the range starts in its window

rule_nine : (s : System) (n i : ℕ) (d : Decoder) → decoder_at s n i ≡ Some d → breaks s 9 n i ≡ false → (d.committed && not (keeps_window s n i d)) ≡ false
unfolding breaks
rule_nine s n i d there kept =
    sym (ap (λ (o : Option Decoder). option_map_or (λ e. e.committed && not (keeps_window s n i e)) o false) there) ∙ kept

pub in_thirds : (s : System) (w : WindowFields) (r : Range) (n i : ℕ) (d : Decoder) → IsWhole s r → window_for s r ≡ Some w → Owns s r n i d → starts_in_thirds w r ≡ true
in_thirds s w r n i d whole window owns =
    let has = has_parts r d owns.has in
    let kept = rule_nine s n i d owns.there (whole.range 9 n i d (omega arith) owns.there owns.has) in
    let keeps = asked d.committed (keeps_window s n i d) kept has.committed in
    let test : Range → Option WindowFields → Bool =
    λ q o. option_map_or (λ v. starts_in_thirds v q && (not (is_endpoint_at s.nodes n) || permits v (span_kind s n i))) o false in
    let here : test r (Some w) ≡ true = sym (ap (test r) window) ∙ sym (ap (λ (q : Range). test q (window_for s q)) (same_range r d has)) ∙ keeps in
    (and_parts (starts_in_thirds w r) _ here).0
