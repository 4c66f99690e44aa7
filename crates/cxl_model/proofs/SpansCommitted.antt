-- The spans of the endpoints' committed decoders are those of the slots of regions.
use Rattle.std.proofs.Common.{◌≡◌, ℕ, ◌/◌, true, List, [], Option, Some, sym, ap, ◌∙◌, subst, arith}
use Rattle.std.specs.Prelude.{slice_get}
use Rattle.std.specs.Option.{option_map_or}
use Rattle.cxl_regs.specs.declared.decoder.Decoder.{Decoder}
use Rattle.cxl_regs.specs.declared.reading.Range.{Range}
use Rattle.cxl_regs.specs.Registers.{Registers}
use Rattle.cxl_regs.specs.Reading.{span_length, has_range}
use Rattle.cxl_span.specs.Spans.{span_start_of}
use Rattle.cxl_span.specs.Breaches.{BlockKeeps}
use Rattle.cxl_window.specs.Fields.{WindowFields}
use Rattle.cxl_regs.proofs.DecoderRanges.{has_parts}
use Rattle.cxl_model.specs.declared.found.Found.{Found}
use Rattle.cxl_model.specs.declared.found.Place.{Place}
use Rattle.cxl_model.specs.System.{System, decoders_at, decoder_at, ram_at, pmem_at}
use Rattle.cxl_model.specs.Accepted.{KeepsBlocks}
use Rattle.cxl_model.specs.Regions.{region_range, IsRegionIn}
use Rattle.cxl_model.specs.Bytes.{slot_length, LiesInSpan, LiesInCommittedSpan}
use Rattle.cxl_model.proofs.Outcomes.{one_value}
use Rattle.cxl_model.proofs.RangeServers.{in_block}
use Rattle.cxl_model.proofs.RangeRules.{block_keeps}
use Rattle.cxl_model.proofs.Spans.{slot_place}
use Rattle.cxl_model.proofs.SpansKinds.{OfPlace, of_place}

-- the span of a slot is that of a decoder
module _ (s : System) (w : WindowFields) (found : Found) (is : IsRegionIn s w found) where
  of_slot : (slot : ℕ) (place : Place) → slice_get found.spans slot ≡ Some place → OfPlace s (region_range found) place
  of_slot slot place at = of_place s w (region_range found) place is.whole is.window (slot_place s w found is slot place at)

  long : (place : Place) → (own : OfPlace s (region_range found) place) → span_length own.d ≡ slot_length found
  long place own = own.length ∙ ap (λ (n : ℕ). found.size / n) (sym is.ways)

  pub in_decoder : (endpoint dpa : ℕ) → LiesInSpan found endpoint dpa → LiesInCommittedSpan s endpoint dpa
  in_decoder endpoint dpa lies =
      subst (λ (n : ℕ). LiesInCommittedSpan s n dpa) lies.here
      (let own = of_slot lies.slot lies.place lies.there in
      record {
        i = own.i;
        d = own.d;
        there = own.there;
        committed = (has_parts (region_range found) own.d own.has).committed;
        from = omega (arith, own.start, lies.from);
        below = omega (arith, own.start, long lies.place own, lies.below);
      })

-- what the law of holders says of ranges
abbrev pub OneHolder : Type 0
OneHolder =
    (block : Registers) (ram pmem i j : ℕ) (r : Range) (d e : Decoder) → BlockKeeps block ram pmem → slice_get block.decoders i ≡ Some d → slice_get block.decoders j ≡ Some e
    → has_range r d ≡ true → has_range r e ≡ true → i ≡ j

-- a node has one decoder of a range
one_number : OneHolder → (s : System) (n i j : ℕ) (r : Range) (d e : Decoder) → KeepsBlocks s → decoder_at s n i ≡ Some d → decoder_at s n j ≡ Some e
    → has_range r d ≡ true → has_range r e ≡ true → i ≡ j
one_number holder s n i j r d e keeps one other has also =
    let own = in_block s n i d one in
    let same : decoders_at s n ≡ own.block.decoders = ap (λ (o : Option Registers). option_map_or (λ block. block.decoders) o []) own.at in
    holder own.block (ram_at s n) (pmem_at s n) i j r d e (block_keeps s keeps n own.block own.at) own.there
    (ap (λ (ds : List Decoder). slice_get ds j) (sym same) ∙ other) has also

-- the span of a decoder of the range is that of the slot with its endpoint
pub in_slot : OneHolder → (s : System) (w : WindowFields) (found : Found) (endpoint dpa slot : ℕ) (place : Place) (own : LiesInCommittedSpan s endpoint dpa) → IsRegionIn s w found
    → has_range (region_range found) own.d ≡ true → slice_get found.spans slot ≡ Some place → place.endpoint ≡ endpoint → LiesInSpan found endpoint dpa
in_slot holder s w found endpoint dpa slot place own is has at here =
    let of = of_slot s w found is slot place at in
    let there : decoder_at s endpoint of.i ≡ Some of.d = ap (λ (n : ℕ). decoder_at s n of.i) (sym here) ∙ of.there in
    let same : of.i ≡ own.i = one_number holder s endpoint of.i own.i (region_range found) of.d own.d is.whole.blocks there own.there of.has has in
    let start : place.start ≡ span_start_of (decoders_at s endpoint) own.i =
    of.start ∙ ap (λ (n : ℕ). span_start_of (decoders_at s n) of.i) here ∙ ap (span_start_of (decoders_at s endpoint)) same in
    let decoder : of.d ≡ own.d = one_value (decoder_at s endpoint own.i) of.d own.d (ap (decoder_at s endpoint) (sym same) ∙ there) own.there in
    let length : span_length own.d ≡ slot_length found = ap span_length (sym decoder) ∙ long s w found is place of in
    record {
      slot = slot;
      place = place;
      there = at;
      here = here;
      from = omega (arith, start, own.from);
      below = omega (arith, start, length, own.below);
    }
