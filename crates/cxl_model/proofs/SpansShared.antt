-- Regions that share a host byte or a device byte are one region.
use Rattle.std.proofs.Common.{◌≡◌, ℕ, ◌+◌, ◌/◌, ◌<◌, ◌≤◌, true, false, List, length, get_or, Option, Some, None, sym, ap, ◌∙◌, subst, inl, inr, arith}
use Rattle.std.specs.Prelude.{slice_get, Contains}
use Rattle.std.specs.Option.{option_map_or}
use Rattle.std.proofs.lemmas.Bool.{cases_lt, false≢true}
use Rattle.std.proofs.lemmas.Option.{slice_get_within, get_or_from_slice_get}
use Rattle.cxl_enc.proofs.Ways.{some_ways}
use Rattle.cxl_topo.specs.Tree.{landing_of, bridge_with}
use Rattle.cxl_regs.specs.declared.decoder.Decoder.{Decoder}
use Rattle.cxl_regs.specs.declared.reading.Range.{Range}
use Rattle.cxl_regs.specs.Reading.{span_length, range_of, has_range}
use Rattle.cxl_span.specs.Spans.{span_start_of, span_end_of}
use Rattle.cxl_window.specs.Fields.{WindowFields}
use Rattle.cxl_topo.proofs.Trees.{KnownTree}
use Rattle.cxl_regs.proofs.DecoderRanges.{has_parts, same_range, range_held}
use Rattle.cxl_model.specs.declared.found.Found.{Found}
use Rattle.cxl_model.specs.declared.found.Place.{Place}
use Rattle.cxl_model.specs.System.{System, IsSystem, decoders_at, decoder_at}
use Rattle.cxl_model.specs.Ranges.{serves}
use Rattle.cxl_model.specs.Rules.{lands_on}
use Rattle.cxl_model.specs.Accepted.{KeepsBlocks}
use Rattle.cxl_model.specs.Regions.{region_range, IsRegionIn}
use Rattle.cxl_model.specs.Bytes.{LiesInSpan, slot_length}
use Rattle.cxl_model.proofs.Outcomes.{one_value}
use Rattle.cxl_model.proofs.RangeRules.{RangesRise, bytes_at, one_holder, served}
use Rattle.cxl_model.proofs.RangeWindows.{HasWindow, has_window, targets}
use Rattle.cxl_model.proofs.SpansRegions.{one_region}
use Rattle.cxl_model.proofs.SpansKinds.{of_place}
use Rattle.cxl_model.proofs.Spans.{slot_place}

-- an address of a range
pub record InRange (r : Range) (h : ℕ) : Type 0 where
  pub from : r.base ≤ h
  pub below : h < r.base + r.size

-- ---- one decoder of a node has an address in its range

same_by_decoder : (s : System) (r q : Range) (n i j : ℕ) (d e : Decoder) → decoder_at s n i ≡ Some d → decoder_at s n j ≡ Some e → has_range r d ≡ true → has_range q e ≡ true → i ≡ j → r ≡ q
same_by_decoder s r q n i j d e d_there e_there d_has e_has same =
    let decoder : d ≡ e = one_value (decoder_at s n j) d e (ap (decoder_at s n) (sym same) ∙ d_there) e_there in
    sym (same_range r d (has_parts r d d_has)) ∙ ap range_of decoder ∙ same_range q e (has_parts q e e_has)

-- ranges that a node serves and that share an address are one
one_at_node : RangesRise → (s : System) (r q : Range) (h n : ℕ) → KeepsBlocks s → serves s r n ≡ true → serves s q n ≡ true → InRange r h → InRange q h → r ≡ q
one_at_node rise s r q h n keeps one other in_r in_q =
    let d = served s r n one in
    let e = served s q n other in
    same_by_decoder s r q n d.i e.i d.d e.d d.there e.there d.has e.has
    (one_holder rise s keeps h n d.i e.i d.d e.d d.there e.there (range_held r d.d h d.has in_r.from in_r.below) (range_held q e.d h e.has in_q.from in_q.below))

-- ranges to which an address comes from one node, and that share an address, are one
one_below : RangesRise → (s : System) (r q : Range) (h b : ℕ) → KeepsBlocks s → lands_on s r b ≡ true → lands_on s q b ≡ true → InRange r h → InRange q h → r ≡ q
one_below rise s r q h b keeps one other in_r in_q = go (landing_of s.nodes b) one other
  where
    go : (o : Option ℕ) → option_map_or (serves s r) o false ≡ true → option_map_or (serves s q) o false ≡ true → r ≡ q
    go None r_lands q_lands = absurd (false≢true r_lands)
    go (Some n) r_lands q_lands = one_at_node rise s r q h n keeps r_lands q_lands in_r in_q

-- ---- host bytes

held_at : (windows : List WindowFields) (w : WindowFields) → slice_get windows w.index ≡ Some w → Contains windows w
held_at windows w there = (w.index, slice_get_within windows w.index w there, get_or_from_slice_get windows w.index w w there)

-- an address of both ranges lies in both windows, so they are one
one_window : (s : System) (r q : Range) (w v : WindowFields) (h : ℕ) → IsSystem s → HasWindow s r w → HasWindow s q v → InRange r h → InRange q h → w ≡ v
one_window s r q w v h system one other in_r in_q =
    let r_from = in_r.from in
    let r_below = in_r.below in
    let q_from = in_q.from in
    let q_below = in_q.below in
    let w_from = one.from in
    let w_to = one.to in
    let v_from = other.from in
    let v_to = other.to in
    let same : w.index ≡ v.index =
    system.made.apart w v (held_at s.windows w one.there) (held_at s.windows v other.there) h one.verdict other.verdict (omega (arith, r_from, w_from)) (omega (arith, r_below, w_to))
    (omega (arith, q_from, v_from)) (omega (arith, q_below, v_to)) in
    one_value (slice_get s.windows v.index) w v (ap (slice_get s.windows) (sym same) ∙ one.there) other.there

-- the first target of a window leads to both ranges
one_range : RangesRise → (s : System) (w : WindowFields) (found other : Found) (h : ℕ) → IsSystem s → KnownTree s.nodes → IsRegionIn s w found → IsRegionIn s w other
    → InRange (region_range found) h → InRange (region_range other) h → region_range found ≡ region_range other
one_range rise s w found other h system known is also in_found in_other =
    let own = has_window s (region_range found) w system is.window in
    let some : 0 < length w.targets = subst (λ (n : ℕ). 0 < n) (sym own.known.target_each_way) (some_ways w.ways own.known.ways_known) in
    let one = targets rise s (region_range found) w system known is.whole is.window is.committed 0 0 some in
    let two = targets rise s (region_range other) w system known also.whole also.window also.committed 0 0 some in
    let bridge : two.bridge ≡ one.bridge = one_value (bridge_with s.nodes (get_or w.targets 0 0)) two.bridge one.bridge two.found one.found in
    one_below rise s (region_range found) (region_range other) h one.bridge is.whole.blocks one.lands (subst (λ (n : ℕ). lands_on s (region_range other) n ≡ true) bridge two.lands) in_found in_other

-- regions that share a host byte are one
pub share_host : RangesRise → (s : System) (w v : WindowFields) (found other : Found) (h : ℕ) → IsSystem s → KnownTree s.nodes → IsRegionIn s w found → IsRegionIn s v other
    → InRange (region_range found) h → InRange (region_range other) h → found ≡ other
share_host rise s w v found other h system known is also in_found in_other =
    let window : w ≡ v =
    one_window s (region_range found) (region_range other) w v h system (has_window s (region_range found) w system is.window) (has_window s (region_range other) v system also.window) in_found in_other in
    let moved : IsRegionIn s w other = subst (λ (u : WindowFields). IsRegionIn s u other) (sym window) also in
    one_region s w v found other known is also (one_range rise s w found other h system known is moved in_found in_other)

-- ---- device bytes

-- what the law of spans says of their order
abbrev pub SpansFollow : Type 0
SpansFollow = (decoders : List Decoder) (i j : ℕ) → i < j → j < length decoders → span_end_of decoders i ≤ span_start_of decoders j

-- a byte of the span of decoder i
pub record InSpan (decoders : List Decoder) (i dpa : ℕ) : Type 0 where
  pub within : i < length decoders
  pub from : span_start_of decoders i ≤ dpa
  pub below : dpa < span_end_of decoders i

pub one_span : SpansFollow → (decoders : List Decoder) (i j dpa : ℕ) → InSpan decoders i dpa → InSpan decoders j dpa → i ≡ j
one_span follow decoders i j dpa one other =
    let one_from = one.from in
    let one_below = one.below in
    let other_from = other.from in
    let other_below = other.below in
    elim (cases_lt i j) [
      | inl less ↦ let apart = follow decoders i j less other.within in absurd (omega (arith, one_below, other_from, apart))
      | inr past ↦ elim (cases_lt j i) [
        | inl more ↦ let apart = follow decoders j i more one.within in absurd (omega (arith, other_below, one_from, apart))
        | inr at ↦ omega arith
      ]
    ]

-- the byte is one of a decoder of the range
pub record OfByte (s : System) (r : Range) (endpoint dpa : ℕ) : Type 0 where
  pub i : ℕ
  pub d : Decoder
  pub there : decoder_at s endpoint i ≡ Some d
  pub has : has_range r d ≡ true
  pub inside : InSpan (decoders_at s endpoint) i dpa

pub of_byte : (s : System) (w : WindowFields) (found : Found) (endpoint dpa : ℕ) → IsRegionIn s w found → LiesInSpan found endpoint dpa → OfByte s (region_range found) endpoint dpa
of_byte s w found endpoint dpa is lies =
    subst (λ (n : ℕ). OfByte s (region_range found) n dpa) lies.here
    (let place : Place = lies.place in
    let own = of_place s w (region_range found) place is.whole is.window (slot_place s w found is lies.slot place lies.there) in
    let length_is : span_length own.d ≡ slot_length found = own.length ∙ ap (λ (n : ℕ). found.size / n) (sym is.ways) in
    let end : span_end_of (decoders_at s place.endpoint) own.i ≡ span_start_of (decoders_at s place.endpoint) own.i + span_length own.d =
    ap (λ (o : Option Decoder). span_start_of (decoders_at s place.endpoint) own.i + option_map_or span_length o 0) own.there in
    let start = own.start in
    let from = lies.from in
    let below = lies.below in
    record {
      i = own.i;
      d = own.d;
      there = own.there;
      has = own.has;
      inside = record {
        within = slice_get_within (decoders_at s place.endpoint) own.i own.d own.there;
        from = omega (arith, start, from);
        below = omega (arith, length_is, end, start, below);
      };
    })

-- regions that share a device byte are one
pub share_device : SpansFollow → (s : System) (w v : WindowFields) (found other : Found) (endpoint dpa : ℕ) → KnownTree s.nodes → IsRegionIn s w found → IsRegionIn s v other
    → LiesInSpan found endpoint dpa → LiesInSpan other endpoint dpa → found ≡ other
share_device follow s w v found other endpoint dpa known is also in_found in_other =
    let one = of_byte s w found endpoint dpa is in_found in
    let two = of_byte s v other endpoint dpa also in_other in
    one_region s w v found other known is also
    (same_by_decoder s (region_range found) (region_range other) endpoint one.i two.i one.d two.d one.there two.there one.has two.has (one_span follow (decoders_at s endpoint) one.i two.i dpa one.inside two.inside))

-- ---- bases

-- the first byte of a region is one of it
pub range_has_bytes : RangesRise → (s : System) (w : WindowFields) (found : Found) → IsRegionIn s w found → InRange (region_range found) found.base
range_has_bytes rise s w found is =
    let n : ℕ = is.committed.0 in
    let at = served s (region_range found) n is.committed.1 in
    let own = has_parts (region_range found) at.d at.has in
    let bytes = bytes_at rise s is.whole.blocks n at.i at.d at.there own.committed in
    let size = own.size in
    record { from = omega arith; below = omega (arith, bytes, size) }

-- regions of one base are one
pub one_base : RangesRise → (s : System) (w v : WindowFields) (found other : Found) → IsSystem s → KnownTree s.nodes → IsRegionIn s w found → IsRegionIn s v other → found.base ≡ other.base → found ≡ other
one_base rise s w v found other system known is also same =
    share_host rise s w v found other found.base system known is also (range_has_bytes rise s w found is)
    (subst (InRange (region_range other)) (sym same) (range_has_bytes rise s v other also))
