-- Each span of a region lies in its device, in the partition of the region's kind.
use Rattle.std.proofs.Common.{◌≡◌, ℕ, ◌*◌, ◌/◌, Bool, true, false, ◌&&◌, ◌||◌, if◌then◌else◌, List, [], Option, Some, None, refl, sym, ap, ◌∙◌, subst, arith}
use Rattle.std.specs.Prelude.{slice_get, ◌==◌}
use Rattle.std.specs.Option.{option_map_or}
use Rattle.std.proofs.lemmas.Bool.{and_parts, false≢true}
use Rattle.cxl_enc.specs.declared.caps.MemKind.{MemKind}
use Rattle.cxl_enc.specs.declared.caps.MemKind.TheVariants.{Ram, Pmem}
use Rattle.cxl_topo.specs.declared.node.Node.{Node}
use Rattle.cxl_topo.specs.Kinds.{is_endpoint}
use Rattle.cxl_topo.specs.Tree.{is_endpoint_at}
use Rattle.cxl_regs.specs.declared.decoder.Decoder.{Decoder}
use Rattle.cxl_regs.specs.Registers.{Registers}
use Rattle.cxl_regs.specs.declared.reading.Range.{Range}
use Rattle.cxl_regs.specs.Reading.{decoder_ways, span_length, has_range}
use Rattle.cxl_span.specs.Spans.{span_start_of}
use Rattle.cxl_span.specs.Partitions.{lies_in}
use Rattle.cxl_span.specs.Breaches.{BlockKeeps}
use Rattle.cxl_window.specs.Fields.{WindowFields}
use Rattle.cxl_regs.proofs.DecoderRanges.{has_parts, same_range}
use Rattle.cxl_model.specs.declared.found.Found.{Found}
use Rattle.cxl_model.specs.declared.found.Place.{Place}
use Rattle.cxl_model.specs.System.{System, IsSystem, decoders_at, decoder_at, ram_at, pmem_at}
use Rattle.cxl_model.specs.Ranges.{serves, index_for, window_for, ways_above, span_kind, same_kind, range_ways, range_kind, range_code}
use Rattle.cxl_model.specs.Rules.{keeps_ways}
use Rattle.cxl_model.specs.Accepted.{breaks, breaks_at, IsWhole}
use Rattle.cxl_model.specs.Regions.{region_range, IsRegionIn}
use Rattle.cxl_model.specs.Bytes.{slot_length}
use Rattle.cxl_model.proofs.Outcomes.{one_value}
use Rattle.cxl_model.proofs.RangeServers.{has_ways, InBlock, in_block, endpoint_test, ways_test}
use Rattle.cxl_model.proofs.RangeRules.{block_keeps, served, kept}
use Rattle.cxl_model.proofs.SpansSlots.{IsPlace}
use Rattle.cxl_model.proofs.Spans.{slot_place}

-- ---- the decoder of a slot's place

-- decoder d, with number i, is the endpoint's of the range, and its span is the slot's
pub record OfPlace (s : System) (r : Range) (place : Place) : Type 0 where
  pub i : ℕ
  pub d : Decoder
  pub endpoint : is_endpoint_at s.nodes place.endpoint ≡ true
  pub there : decoder_at s place.endpoint i ≡ Some d
  pub has : has_range r d ≡ true
  pub start : place.start ≡ span_start_of (decoders_at s place.endpoint) i
  pub length : span_length d ≡ r.size / range_ways s r

pub of_place : (s : System) (w : WindowFields) (r : Range) (place : Place) → IsWhole s r → window_for s r ≡ Some w → IsPlace s r place → OfPlace s r place
of_place s w r place whole window is =
    let parts = and_parts (is_endpoint_at s.nodes place.endpoint) (serves s r place.endpoint) is.endpoint in
    let at = served s r place.endpoint parts.1 in
    let same : is.i ≡ at.i = one_value (index_for s r place.endpoint) is.i at.i is.number at.number in
    let ways = has_ways s w r place.endpoint at.i at.d whole window (record { endpoint = parts.0; there = at.there; has = at.has }) in
    let has = has_parts r at.d at.has in
    record {
      i = at.i;
      d = at.d;
      endpoint = parts.0;
      there = at.there;
      has = at.has;
      start = is.start ∙ ap (span_start_of (decoders_at s place.endpoint)) same;
      length = ap (λ (n : ℕ). n / decoder_ways at.d) has.size ∙ ap (λ (n : ℕ). r.size / n) ways.ways;
    }

-- ---- the kind

pub rule_twelve : (s : System) (n i : ℕ) → breaks s 12 n i ≡ breaks_at s n i (keeps_ways s n i)
unfolding breaks
rule_twelve s n i = refl

kinds_same : (a b : MemKind) → same_kind a b ≡ true → a ≡ b
kinds_same Ram Ram same = refl
kinds_same Ram Pmem same = absurd (false≢true same)
kinds_same Pmem Ram same = absurd (false≢true same)
kinds_same Pmem Pmem same = refl

-- K12: an endpoint's span is of the range's kind
pub has_kind : (s : System) (w : WindowFields) (r : Range) (n i : ℕ) (d : Decoder) → IsWhole s r → window_for s r ≡ Some w → is_endpoint_at s.nodes n ≡ true → decoder_at s n i ≡ Some d → has_range r d ≡ true
    → span_kind s n i ≡ range_kind s r
has_kind s w r n i d whole window endpoint there has =
    let own = has_parts r d has in
    let keeps : keeps_ways s n i d ≡ true = kept s n i d (keeps_ways s n i) there own.committed (sym (rule_twelve s n i) ∙ whole.range 12 n i d (omega arith) there has) in
    let test : endpoint_test s w n i d r ≡ true =
    sym (ap (λ (q : Range). ways_test s n i d q (window_for s q) (is_endpoint_at s.nodes n)) (same_range r d own)
    ∙ ap (λ (o : Option WindowFields). ways_test s n i d r o (is_endpoint_at s.nodes n)) window
    ∙ ap (ways_test s n i d r (Some w)) endpoint)
    ∙ keeps in
    let product : Bool = decoder_ways d == w.ways * ways_above s r n in
    let ways : Bool = decoder_ways d == range_ways s r in
    let kind : Bool = same_kind (span_kind s n i) (range_kind s r) in
    let outer = and_parts (product && ways && kind) ((decoder_ways d == 1) || (d.gran == range_code s w r)) test in
    kinds_same (span_kind s n i) (range_kind s r) (and_parts (product && ways) kind outer.0).1

-- ---- its partition

-- what the law of spans says of partitions
abbrev pub InPartitions : Type 0
InPartitions =
    (block : Registers) (ram pmem i : ℕ) (d : Decoder) → BlockKeeps block ram pmem → block.endpoint ≡ true → slice_get block.decoders i ≡ Some d → d.committed ≡ true
    → (kind : MemKind) × (lies_in kind ram pmem (span_start_of block.decoders i) (span_length d) ≡ true)

own_kind : (kind : MemKind) (ram pmem start len : ℕ) → lies_in kind ram pmem start len ≡ true
    → lies_in (if lies_in Ram ram pmem start len then Ram else Pmem) ram pmem start len ≡ true
own_kind kind ram pmem start len lies = go kind (lies_in Ram ram pmem start len) refl lies
  where
    go : (kind : MemKind) (b : Bool) → lies_in Ram ram pmem start len ≡ b → lies_in kind ram pmem start len ≡ true → lies_in (if b then Ram else Pmem) ram pmem start len ≡ true
    go kind true is lies = is
    go Ram false is lies = absurd (false≢true (sym is ∙ lies))
    go Pmem false is lies = lies

-- the block of an endpoint is an endpoint's
pub endpoint_block : (s : System) (n : ℕ) (block : Registers) → IsSystem s → slice_get s.blocks n ≡ Some block → is_endpoint_at s.nodes n ≡ true → block.endpoint ≡ true
endpoint_block s n block system at endpoint = go (slice_get s.nodes n) refl endpoint
  where
    go : (o : Option Node) → slice_get s.nodes n ≡ o → option_map_or (λ node. is_endpoint node.kind) o false ≡ true → block.endpoint ≡ true
    go None there is = absurd (false≢true is)
    go (Some node) there is = (system.caps.each n block node at there).endpoint ∙ is

in_own_kind : InPartitions → (s : System) (r : Range) (n i : ℕ) (d : Decoder) → IsSystem s → IsWhole s r → is_endpoint_at s.nodes n ≡ true → decoder_at s n i ≡ Some d → has_range r d ≡ true
    → lies_in (span_kind s n i) (ram_at s n) (pmem_at s n) (span_start_of (decoders_at s n) i) (span_length d) ≡ true
in_own_kind partitions s r n i d system whole endpoint there has =
    subst (λ (len : ℕ). lies_in (if lies_in Ram (ram_at s n) (pmem_at s n) (span_start_of (decoders_at s n) i) len then Ram else Pmem) (ram_at s n) (pmem_at s n) (span_start_of (decoders_at s n) i) (span_length d) ≡ true)
    (sym (ap (λ (o : Option Decoder). option_map_or span_length o 0) there))
    (own_kind lies.0 (ram_at s n) (pmem_at s n) (span_start_of (decoders_at s n) i) (span_length d) lies.1)
  where
    own : InBlock s n i d
    own = in_block s n i d there

    of_block : (kind : MemKind) × (lies_in kind (ram_at s n) (pmem_at s n) (span_start_of own.block.decoders i) (span_length d) ≡ true)
    of_block =
        partitions own.block (ram_at s n) (pmem_at s n) i d (block_keeps s whole.blocks n own.block own.at) (endpoint_block s n own.block system own.at endpoint) own.there
        (has_parts r d has).committed

    same : own.block.decoders ≡ decoders_at s n
    same = sym (ap (λ (o : Option Registers). option_map_or (λ block. block.decoders) o []) own.at)

    lies : (kind : MemKind) × (lies_in kind (ram_at s n) (pmem_at s n) (span_start_of (decoders_at s n) i) (span_length d) ≡ true)
    lies = subst (λ (ds : List Decoder). (kind : MemKind) × (lies_in kind (ram_at s n) (pmem_at s n) (span_start_of ds i) (span_length d) ≡ true)) same of_block

-- the span of a slot lies in the partition of the region's kind
pub slot_inside : InPartitions → (s : System) (w : WindowFields) (found : Found) → IsSystem s → IsRegionIn s w found → (slot : ℕ) (place : Place) → slice_get found.spans slot ≡ Some place
    → lies_in found.kind (ram_at s place.endpoint) (pmem_at s place.endpoint) place.start (slot_length found) ≡ true
slot_inside partitions s w found system is slot place at =
    subst (λ (kind : MemKind). lies_in kind (ram_at s place.endpoint) (pmem_at s place.endpoint) place.start (slot_length found) ≡ true)
    (has_kind s w r place.endpoint own.i own.d is.whole is.window own.endpoint own.there own.has ∙ sym is.kind)
    (subst (λ (start : ℕ). lies_in (span_kind s place.endpoint own.i) (ram_at s place.endpoint) (pmem_at s place.endpoint) start (slot_length found) ≡ true) (sym own.start)
    (subst (λ (len : ℕ). lies_in (span_kind s place.endpoint own.i) (ram_at s place.endpoint) (pmem_at s place.endpoint) (span_start_of (decoders_at s place.endpoint) own.i) len ≡ true)
    (own.length ∙ ap (λ (n : ℕ). found.size / n) (sym is.ways))
    (in_own_kind partitions s r place.endpoint own.i own.d system is.whole own.endpoint own.there own.has)))
  where
    r : Range
    r = region_range found

    own : OfPlace s r place
    own = of_place s w r place is.whole is.window (slot_place s w found is slot place at)
