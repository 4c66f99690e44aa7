-- A chain that ends on a region's span comes by the decoder of the region's range.
use Rattle.std.proofs.Common.{◌≡◌, ℕ, ◌+◌, ◌<◌, ◌≤◌, true, List, [], Option, Some, sym, ap, ◌∙◌, subst, arith}
use Rattle.std.specs.Prelude.{slice_get}
use Rattle.std.specs.Option.{option_map_or}
use Rattle.std.proofs.lemmas.Option.{slice_get_within}
use Rattle.cxl_enc.proofs.Options.{some_and}
use Rattle.cxl_enc.proofs.Lists.{All-at}
use Rattle.cxl_regs.specs.declared.decoder.Decoder.{Decoder}
use Rattle.cxl_regs.specs.Registers.{Registers, IsBlock}
use Rattle.cxl_regs.specs.Reading.{span_length, holds_address, has_range}
use Rattle.cxl_span.specs.Spans.{span_start_of, span_end_of, endpoint_place_of}
use Rattle.cxl_span.specs.Breaches.{BlockKeeps}
use Rattle.cxl_window.specs.Fields.{WindowFields}
use Rattle.cxl_regs.proofs.DecoderRanges.{holds_parts, has_parts}
use Rattle.cxl_model.specs.declared.found.Found.{Found}
use Rattle.cxl_model.specs.System.{System, IsSystem, decoders_at, decoder_at, ram_at, pmem_at}
use Rattle.cxl_model.specs.Chain.{Arrival, Places, IsArrival}
use Rattle.cxl_model.specs.Accepted.{KeepsBlocks}
use Rattle.cxl_model.specs.Regions.{region_range, IsRegionIn}
use Rattle.cxl_model.specs.Bytes.{LiesInSpan}
use Rattle.cxl_model.proofs.Outcomes.{one_value}
use Rattle.cxl_model.proofs.RangeServers.{InBlock, in_block}
use Rattle.cxl_model.proofs.RangeRules.{block_keeps}
use Rattle.cxl_model.proofs.SpansKinds.{endpoint_block}
use Rattle.cxl_model.proofs.SpansShared.{InSpan, one_span, SpansFollow, of_byte}

-- what the law of spans says of the addresses that go into them
abbrev pub GoIntoSpans : Type 0
GoIntoSpans =
    (block : Registers) (ram pmem i h : ℕ) (d : Decoder) → IsBlock block → BlockKeeps block ram pmem → block.endpoint ≡ true → slice_get block.decoders i ≡ Some d → holds_address d h ≡ true
    → endpoint_place_of (span_start_of block.decoders i) d h < span_start_of block.decoders i + span_length d

-- the byte at which an address arrives lies in the decoder's span
arrives_inside : GoIntoSpans → (s : System) (h n : ℕ) (arrival : Arrival) (d : Decoder) → IsSystem s → KeepsBlocks s → IsArrival s h n arrival → decoder_at s n arrival.decoder ≡ Some d
    → Places s h n arrival d → InSpan (decoders_at s n) arrival.decoder arrival.dpa
arrives_inside into s h n arrival d system keeps is there places =
    let own : InBlock s n arrival.decoder d = in_block s n arrival.decoder d there in
    let block : Registers = own.block in
    let same : decoders_at s n ≡ block.decoders = ap (λ (o : Option Registers). option_map_or (λ block. block.decoders) o []) own.at in
    let start : span_start_of (decoders_at s n) arrival.decoder ≡ span_start_of block.decoders arrival.decoder = ap (λ (ds : List Decoder). span_start_of ds arrival.decoder) same in
    let end : span_end_of (decoders_at s n) arrival.decoder ≡ span_start_of (decoders_at s n) arrival.decoder + span_length d =
    ap (λ (o : Option Decoder). span_start_of (decoders_at s n) arrival.decoder + option_map_or span_length o 0) there in
    let dpa = places.dpa in
    let below =
    into block (ram_at s n) (pmem_at s n) arrival.decoder h d (All-at IsBlock s.blocks n block own.at system.blocks) (block_keeps s keeps n block own.at)
    (endpoint_block s n block system own.at is.endpoint) own.there places.holds in
    record {
      within = slice_get_within (decoders_at s n) arrival.decoder d there;
      from = omega (arith, dpa);
      below = omega (arith, dpa, start, end, below);
    }

-- the address is one of the region, and the decoder has its base
pub record ComesIn (found : Found) (h : ℕ) (arrival : Arrival) : Type 0 where
  pub base : arrival.base ≡ found.base
  pub from : found.base ≤ h
  pub below : h < found.base + found.size

pub comes_in : SpansFollow → GoIntoSpans → (s : System) (w : WindowFields) (found : Found) (h : ℕ) (arrival : Arrival) → IsSystem s → IsRegionIn s w found
    → LiesInSpan found arrival.endpoint arrival.dpa → IsArrival s h arrival.endpoint arrival → ComesIn found h arrival
comes_in follow into s w found h arrival system region lies is =
    let n : ℕ = arrival.endpoint in
    let at = some_and (decoder_at s n arrival.decoder) (Places s h n arrival) is.place in
    let d : Decoder = at.0 in
    let own = of_byte s w found n arrival.dpa region lies in
    let number : arrival.decoder ≡ own.i =
    one_span follow (decoders_at s n) arrival.decoder own.i arrival.dpa (arrives_inside into s h n arrival d system region.whole.blocks is at.1 at.2) own.inside in
    let decoder : d ≡ own.d = one_value (decoder_at s n own.i) d own.d (ap (decoder_at s n) (sym number) ∙ at.1) own.there in
    let has = has_parts (region_range found) d (subst (λ (e : Decoder). has_range (region_range found) e ≡ true) (sym decoder) own.has) in
    let held = holds_parts d h at.2.holds in
    let base = has.base in
    let size = has.size in
    let from = held.from in
    let below = held.below in
    record { base = at.2.base ∙ base; from = omega (arith, base, from); below = omega (arith, base, size, below) }
