-- What K4 and K12 say of an endpoint's decoder of a whole range, and how a slot's span leads to one.
use Rattle.std.proofs.Common.{◌≡◌, ℕ, ◌*◌, ◌%◌, ◌^◌, ◌<◌, ◌≤◌, ◌⊎◌, Bool, true, false, not, ◌&&◌, ◌||◌, if◌then◌else◌, [], length, get_or, Option, Some, None, refl, sym, ap, ◌∙◌, inl, inr, arith}
use Rattle.std.specs.Prelude.{slice_get, ◌==◌, nat_le, IsSomeAnd, All}
use Rattle.std.specs.Option.{option_map_or}
use Rattle.std.proofs.lemmas.Bool.{and_parts, eqb-true, leb-true, or_cases}
use Rattle.std.proofs.lemmas.Option.{slice_get_within, slice_get-get_or}
use Rattle.std.proofs.lemmas.List.Quantifiers.{position-Some}
use Rattle.cxl_enc.proofs.Tests.{asked}
use Rattle.cxl_enc.proofs.Lists.{All-at}
use Rattle.cxl_topo.specs.Tree.{is_endpoint_at}
use Rattle.cxl_topo.proofs.Trees.{endpoint_within}
use Rattle.cxl_regs.specs.declared.decoder.Decoder.{Decoder}
use Rattle.cxl_regs.specs.Registers.{Registers, IsBlock, IsDecoder, reset_decoder}
use Rattle.cxl_regs.specs.Rules.{codes_ok, endpoint_ways_ok, port_ways_ok}
use Rattle.cxl_regs.specs.declared.reading.Range.{Range}
use Rattle.cxl_regs.specs.Reading.{decoder_ways, range_of, has_range}
use Rattle.cxl_span.specs.Spans.{span_start_of}
use Rattle.cxl_span.specs.Breaches.{breaks as block_breaks}
use Rattle.cxl_window.specs.Fields.{WindowFields}
use Rattle.cxl_regs.proofs.DecoderRanges.{has_parts, same_range}
use Rattle.cxl_span.proofs.RulesBroken.{codes_here}
use Rattle.cxl_model.specs.declared.found.Place.{Place}
use Rattle.cxl_model.specs.System.{System, decoders_at, decoder_at, ram_at, pmem_at}
use Rattle.cxl_model.specs.Counts.{is_endpoint_of}
use Rattle.cxl_model.specs.Ranges.{serves, index_for, window_for, ways_above, span_kind, same_kind, range_ways, range_kind, range_code}
use Rattle.cxl_model.specs.Rules.{keeps_ways, keeps_port_code}
use Rattle.cxl_model.specs.Accepted.{breaks, KeepsBlocks, IsWhole}
use Rattle.cxl_model.specs.Regions.{LeadsTo, past_forwarding, past_port, at_endpoint}

-- an endpoint of a range stands in the tree
pub endpoint_inside : (s : System) (r : Range) (m : ℕ) → is_endpoint_of s r m ≡ true → m < length s.nodes
endpoint_inside s r m is = endpoint_within s.nodes m (and_parts (is_endpoint_at s.nodes m) (serves s r m) is).0

-- ---- a decoder of a range

-- node n is an endpoint, and its decoder d, with number i, is committed with the range
pub record Serves (s : System) (r : Range) (n i : ℕ) (d : Decoder) : Type 0 where
  pub endpoint : is_endpoint_at s.nodes n ≡ true
  pub there : decoder_at s n i ≡ Some d
  pub has : has_range r d ≡ true

-- ---- the way of a slot

pub record Reaches (s : System) (r : Range) : Type 0 where
  pub n : ℕ
  pub i : ℕ
  pub d : Decoder
  pub serves : Serves s r n i d

at_index : (s : System) (r : Range) (n i : ℕ) → is_endpoint_at s.nodes n ≡ true → index_for s r n ≡ Some i → Reaches s r
at_index s r n i endpoint is =
    let found = position-Some (has_range r) (decoders_at s n) i reset_decoder is in
    record {
      n = n;
      i = i;
      d = get_or (decoders_at s n) i reset_decoder;
      serves = record { endpoint = endpoint; there = slice_get-get_or (decoders_at s n) i reset_decoder found.0; has = found.1 };
    }

at_place : (s : System) (r : Range) (n : ℕ) (o : Option ℕ) (P : ℕ → Type 0) → is_endpoint_at s.nodes n ≡ true → index_for s r n ≡ o → IsSomeAnd o P → Reaches s r
at_place s r n None P endpoint is some = absurd some
at_place s r n (Some i) P endpoint is some = at_index s r n i endpoint is

pub reached : (s : System) (w : WindowFields) (r : Range) (slot n : ℕ) (place : Place) → LeadsTo s w r slot n place → Reaches s r
reached s w r slot n place (past_forwarding _ child _ forwards first leads) = reached s w r slot child place leads
reached s w r slot n place (past_port _ child _ own port way leads) = reached s w r slot child place leads
reached s w r slot n place (at_endpoint _ endpoint start) =
    at_place s r place.endpoint (index_for s r place.endpoint) (λ (i : ℕ). place.start ≡ span_start_of (decoders_at s place.endpoint) i) endpoint refl start

-- ---- its block

pub record InBlock (s : System) (n i : ℕ) (d : Decoder) : Type 0 where
  pub block : Registers
  pub at : slice_get s.blocks n ≡ Some block
  pub there : slice_get block.decoders i ≡ Some d

in_block_if : (s : System) (n i : ℕ) (d : Decoder) (o : Option Registers) → slice_get s.blocks n ≡ o
    → slice_get (option_map_or (λ block. block.decoders) o []) i ≡ Some d → InBlock s n i d
in_block_if s n i d None at there =
    let within = slice_get_within [] i d there in
    absurd (omega arith)
in_block_if s n i d (Some block) at there = record { block = block; at = at; there = there }

pub in_block : (s : System) (n i : ℕ) (d : Decoder) → decoder_at s n i ≡ Some d → InBlock s n i d
in_block s n i d there = in_block_if s n i d (slice_get s.blocks n) refl there

-- its base is a multiple of 256 MiB
pub base_aligned : (s : System) (n i : ℕ) (d : Decoder) → All IsBlock s.blocks → decoder_at s n i ≡ Some d → d.base % 2 ^ 28 ≡ 0
base_aligned s n i d blocks there =
    let own = in_block s n i d there in
    let is = All-at IsBlock s.blocks n own.block own.at blocks in
    let each = All-at (IsDecoder own.block.endpoint) own.block.decoders i d own.there is.each in
    each.base.multiple

-- K4: its granularity code is at most 6
pub block_keeps : (s : System) (n i : ℕ) (block : Registers) → slice_get s.blocks n ≡ Some block → breaks s 4 n i ≡ false
    → block_breaks 4 block (ram_at s n) (pmem_at s n) i ≡ false
unfolding breaks
block_keeps s n i block at kept =
    sym (ap (λ (o : Option Registers). option_map_or (λ b. block_breaks 4 b (ram_at s n) (pmem_at s n) i) o false) at) ∙ kept

pub gran_known : (s : System) (n i : ℕ) (d : Decoder) → KeepsBlocks s → decoder_at s n i ≡ Some d → d.committed ≡ true → d.gran ≤ 6
gran_known s n i d keeps there committed =
    let own = in_block s n i d there in
    let block : Registers = own.block in
    let kept = block_keeps s n i block own.at (keeps 4 n i (omega arith)) in
    let codes = asked d.committed (codes_ok block.cap block.endpoint d) (sym (codes_here block (ram_at s n) (pmem_at s n) i d own.there) ∙ kept) committed in
    let parts = and_parts (nat_le d.gran 6) (if block.endpoint then endpoint_ways_ok block.cap d.ways else port_ways_ok block.cap d.ways) codes in
    leb-true d.gran 6 parts.0

-- ---- K12

-- the test of an endpoint's decoder, by its range
abbrev pub endpoint_test : System → WindowFields → ℕ → ℕ → Decoder → Range → Bool
endpoint_test s w n i d r =
    (decoder_ways d == w.ways * ways_above s r n)
    && (decoder_ways d == range_ways s r)
    && same_kind (span_kind s n i) (range_kind s r)
    && ((decoder_ways d == 1) || (d.gran == range_code s w r))

abbrev pub ways_test : System → ℕ → ℕ → Decoder → Range → Option WindowFields → Bool → Bool
ways_test s n i d r o endpoint =
    option_map_or (λ w. if endpoint then endpoint_test s w n i d r else keeps_port_code s w n d) o true

-- the ways are the window's times those of the ports above, and those of the range; with more than one the code is the range's
pub record HasWays (s : System) (w : WindowFields) (r : Range) (n : ℕ) (d : Decoder) : Type 0 where
  pub product : decoder_ways d ≡ w.ways * ways_above s r n
  pub ways : decoder_ways d ≡ range_ways s r
  pub code : (decoder_ways d ≡ 1) ⊎ (d.gran ≡ range_code s w r)

has_ways_by : (s : System) (w : WindowFields) (r : Range) (n i : ℕ) (d : Decoder) → endpoint_test s w n i d r ≡ true → HasWays s w r n d
has_ways_by s w r n i d test =
    let product : Bool = decoder_ways d == w.ways * ways_above s r n in
    let own : Bool = decoder_ways d == range_ways s r in
    let kind : Bool = same_kind (span_kind s n i) (range_kind s r) in
    let code : Bool = (decoder_ways d == 1) || (d.gran == range_code s w r) in
    let outer = and_parts (product && own && kind) code test in
    let middle = and_parts (product && own) kind outer.0 in
    let inner = and_parts product own middle.0 in
    record {
      product = eqb-true (decoder_ways d) (w.ways * ways_above s r n) inner.0;
      ways = eqb-true (decoder_ways d) (range_ways s r) inner.1;
      code = elim (or_cases (decoder_ways d == 1) (d.gran == range_code s w r) outer.1) [
        | inl one ↦ inl (eqb-true (decoder_ways d) 1 one)
        | inr same ↦ inr (eqb-true d.gran (range_code s w r) same)
      ];
    }

pub rule_twelve : (s : System) (n i : ℕ) (d : Decoder) → decoder_at s n i ≡ Some d → breaks s 12 n i ≡ false
    → (d.committed && not (keeps_ways s n i d)) ≡ false
unfolding breaks
rule_twelve s n i d there kept =
    sym (ap (λ (o : Option Decoder). option_map_or (λ e. e.committed && not (keeps_ways s n i e)) o false) there) ∙ kept

keeps_test : (s : System) (n i : ℕ) (d : Decoder) → keeps_ways s n i d ≡ ways_test s n i d (range_of d) (window_for s (range_of d)) (is_endpoint_at s.nodes n)
keeps_test s n i d = refl

pub has_ways : (s : System) (w : WindowFields) (r : Range) (n i : ℕ) (d : Decoder) → IsWhole s r → window_for s r ≡ Some w → Serves s r n i d
    → HasWays s w r n d
has_ways s w r n i d whole window serves =
    let has = has_parts r d serves.has in
    let kept = rule_twelve s n i d serves.there (whole.range 12 n i d (omega arith) serves.there serves.has) in
    let keeps = asked d.committed (keeps_ways s n i d) kept has.committed in
    let moved : ways_test s n i d r (window_for s r) (is_endpoint_at s.nodes n) ≡ true =
    sym (ap (λ (q : Range). ways_test s n i d q (window_for s q) (is_endpoint_at s.nodes n)) (same_range r d has)) ∙ keeps in
    let at_window : ways_test s n i d r (Some w) (is_endpoint_at s.nodes n) ≡ true =
    sym (ap (λ (o : Option WindowFields). ways_test s n i d r o (is_endpoint_at s.nodes n)) window) ∙ moved in
    let at_endpoint : ways_test s n i d r (Some w) true ≡ true =
    sym (ap (λ (b : Bool). ways_test s n i d r (Some w) b) serves.endpoint) ∙ at_window in
    has_ways_by s w r n i d at_endpoint
