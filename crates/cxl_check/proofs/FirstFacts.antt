-- What the first endpoint of a range says of it.
use Rattle.std.proofs.Common.{◌≡◌, ℕ, ◌&&◌, true, length, Some, None, refl, ap, ◌∙◌, if◌then◌else◌}
use Rattle.std.specs.Prelude.{slice_get, ◌==◌, IsSomeAnd}
use Rattle.std.specs.Option.{option_and_then}
use Rattle.std.proofs.lemmas.Bool.{and_parts, eqb-true}
use Rattle.cxl_enc.specs.declared.caps.MemKind.{MemKind}
use Rattle.cxl_enc.specs.declared.caps.MemKind.TheVariants.{Ram}
use Rattle.cxl_topo.specs.Tree.{is_endpoint_at}
use Rattle.cxl_regs.specs.declared.decoder.Decoder.{Decoder}
use Rattle.cxl_regs.specs.declared.reading.Range.{Range}
use Rattle.cxl_regs.specs.Reading.{decoder_ways, has_range, range_of}
use Rattle.cxl_model.specs.System.{System, decoders_at, decoder_at}
use Rattle.cxl_model.specs.Ranges.{serves, decoder_for, index_for, first_endpoint, span_kind}
use Rattle.cxl_check.specs.inner.Facts.{AreFacts}
use Rattle.cxl_check.proofs.Searches.{find_by_position, passes_at}
use Rattle.cxl_check.proofs.Numbers.{found}

-- a decoder has no range but its own
pub range_is : (r : Range) (d : Decoder) → has_range r d ≡ true → range_of d ≡ r
range_is r d has =
    let parts = and_parts (d.committed && (d.base == r.base)) (d.size == r.size) has in
    let base : d.base ≡ r.base = eqb-true d.base r.base (and_parts d.committed (d.base == r.base) parts.0).1 in
    let size : d.size ≡ r.size = eqb-true d.size r.size parts.1 in
    λ i. record { base = base i; size = size i }

module _ (s : System) (r : Range) where
  pub no_first : first_endpoint s r ≡ None → AreFacts s r (record { ways = 1; code = 0; kind = Ram })
  no_first none = record { ways = rw none refl; code = rw none refl; kind = rw none refl }

  pub by_index : (n : ℕ) → decoder_for s r n ≡ option_and_then (slice_get (decoders_at s n)) (index_for s r n)
  by_index n = find_by_position (has_range r) (decoders_at s n)

  pub no_index : (n : ℕ) → first_endpoint s r ≡ Some n → index_for s r n ≡ None → AreFacts s r (record { ways = 1; code = 0; kind = Ram })
  no_index n first none =
      let lacks : decoder_for s r n ≡ None = by_index n ∙ rw none refl in
      record { ways = rw (first, lacks) refl; code = rw (first, lacks) refl; kind = rw (first, none) refl }

  pub with_index : (n i : ℕ) (d : Decoder) (ways code : ℕ) (kind : MemKind) → first_endpoint s r ≡ Some n → index_for s r n ≡ Some i → decoder_at s n i ≡ Some d
      → ways ≡ decoder_ways d → code ≡ (if ways == 1 then 0 else d.gran) → kind ≡ span_kind s n i → AreFacts s r (record { ways = ways; code = code; kind = kind })
  with_index n i d ways code kind first at there ways_are code_is kind_is =
      let has : decoder_for s r n ≡ Some d = by_index n ∙ ap (option_and_then (slice_get (decoders_at s n))) at ∙ there in
      record {
        ways = ways_are ∙ rw (first, has) refl;
        code = code_is ∙ rw ways_are (rw (first, has) refl);
        kind = kind_is ∙ rw (first, at) refl;
      }

  -- the first endpoint is one, and its decoder of the range is committed
  pub is_endpoint : (n : ℕ) → first_endpoint s r ≡ Some n → is_endpoint_at s.nodes n ≡ true
  is_endpoint n first = (and_parts (is_endpoint_at s.nodes n) (serves s r n) (found (λ m. is_endpoint_at s.nodes m && serves s r m) (length s.nodes) n first).1).0

  -- a decoder of the range that stands first is committed
  pub is_committed : (n i : ℕ) → index_for s r n ≡ Some i → IsSomeAnd (decoder_at s n i) (λ d. d.committed ≡ true)
  is_committed n i at =
      let d = passes_at (has_range r) (decoders_at s n) i at in
      let committed = (and_parts d.0.committed (d.0.base == r.base) (and_parts (d.0.committed && (d.0.base == r.base)) (d.0.size == r.size) d.2).0).0 in
      rw d.1 committed
