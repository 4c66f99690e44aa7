-- What is worked out of decoders, one after the other.
use Rattle.std.proofs.Common.{◌≡◌, ℕ, ◌+◌, ◌*◌, ◌^◌, ◌<◌, ◌≤◌, true, false, List, length, get_or, set, Some, None, sym, ap, subst, ◌∙◌, inl, inr, arith}
use Rattle.std.specs.Prelude.{◌&&◌, ◌==◌, slice_get}
use Rattle.std.specs.Option.{option_and_then}
use Rattle.std.proofs.lemmas.Bool.{cases_lt, cases_eq, false≢true, and_parts}
use Rattle.std.proofs.lemmas.List.{get_or-set_same, get_or-set_other, length-set}
use Rattle.std.proofs.lemmas.Option.{same_Some, slice_get_within}
use Rattle.cxl_regs.specs.declared.decoder.Decoder.{Decoder}
use Rattle.cxl_regs.specs.declared.reading.Range.{Range}
use Rattle.cxl_regs.specs.Registers.{Registers}
use Rattle.cxl_regs.specs.Reading.{has_range, range_of}
use Rattle.cxl_span.specs.Breaches.{BlockKeeps}
use Rattle.cxl_model.specs.System.{System, decoders_at, decoder_at, ram_at, pmem_at}
use Rattle.cxl_model.specs.Accepted.{IsOrderlySystem}
use Rattle.cxl_model.specs.Ranges.{decoder_for, index_for, ways_above, bits_above}
use Rattle.cxl_model.proofs.RangeRules.{block_keeps, at_in_block}
use Rattle.cxl_model.proofs.RangeServers.{in_block}
use Rattle.cxl_check.specs.declared.decoder_facts.DecoderFacts.{DecoderFacts}
use Rattle.cxl_check.specs.inner.DecoderFacts.{AreDecoderFacts, AreFactsBefore}
use Rattle.cxl_check.proofs.FirstFacts.{range_is, by_index}
use Rattle.cxl_check.proofs.Searches.{passes_at}

-- what is said of the decoders before a committed one
abbrev pub StandFirst : Type 0
StandFirst =
    (block : Registers) (ram pmem i j : ℕ) (d e : Decoder) → BlockKeeps block ram pmem → slice_get block.decoders i ≡ Some d → slice_get block.decoders j ≡ Some e
    → i < j → e.committed ≡ true → d.committed ≡ true

-- what is worked out of a port's decoder of a range
pub record ArePortFacts (s : System) (r : Range) (p : ℕ) (d : Decoder) (facts : DecoderFacts) : Type 0 where
  pub has : decoder_for s r p ≡ Some d
  pub ways : facts.ways ≡ ways_above s r p
  pub few_ways : facts.ways ≤ 2 ^ 20
  pub bits : facts.bits ≡ bits_above s r p
  pub few_bits : facts.bits ≤ 20

module _ (s : System) where
  -- no decoder stands before the first place
  pub none_worked : (all : List DecoderFacts) → length all ≡ 10 * length s.nodes → AreFactsBefore s 0 all
  none_worked all long = record { count = long; each = λ n i d other below. absurd (omega (arith, below)) }

  -- a decoder is that of its place
  one_place : (m j n i : ℕ) (e d : Decoder) → 10 * m + j ≡ 10 * n + i → j < 10 → i < 10 → decoder_at s m j ≡ Some e → decoder_at s n i ≡ Some d → (m ≡ n) × (j ≡ i) × (e ≡ d)
  one_place m j n i e d same low few here there =
      let node : m ≡ n = omega (arith, same, low, few) in
      let number : j ≡ i = omega (arith, same, low, few) in
      (node, number, same_Some e d (sym here ∙ ap (λ (k : ℕ). decoder_at s k j) node ∙ ap (λ (k : ℕ). decoder_at s n k) number ∙ there))

  module _ (n i : ℕ) (d : Decoder) (few : i < 10) (there : decoder_at s n i ≡ Some d) where
    -- another is entered at its place
    pub one_worked : (old new : List DecoderFacts) (facts : DecoderFacts) → n < length s.nodes → AreDecoderFacts s n i d facts → AreFactsBefore s (10 * n + i) old → new ≡ set old (10 * n + i) facts
        → AreFactsBefore s (10 * n + (i + 1)) new
    one_worked old new facts inside are before is = record {
      count = ap length is ∙ length-set old (10 * n + i) facts ∙ before.count;
      each = λ m j e other below low here committed.
          subst (λ (xs : List DecoderFacts). AreDecoderFacts s m j e (get_or xs (10 * m + j) other)) (sym is) (at m j e other below low here committed);
    }
      where
        own : (m j : ℕ) (e : Decoder) → m ≡ n → j ≡ i → e ≡ d → AreDecoderFacts s m j e facts
        own m j e node number one =
            subst (λ (k : ℕ). AreDecoderFacts s k j e facts) (sym node)
            (subst (λ (k : ℕ). AreDecoderFacts s n k e facts) (sym number)
            (subst (λ (x : Decoder). AreDecoderFacts s n i x facts) (sym one) are))

        at : (m j : ℕ) (e : Decoder) (other : DecoderFacts) → 10 * m + j < 10 * n + (i + 1) → j < 10 → decoder_at s m j ≡ Some e → e.committed ≡ true
            → AreDecoderFacts s m j e (get_or (set old (10 * n + i) facts) (10 * m + j) other)
        at m j e other below low here committed =
            elim (cases_eq (10 * m + j) (10 * n + i)) [
              | inl same ↦
                  let one = one_place m j n i e d same low few here there in
                  let wide : 10 * n + i < length old = omega (arith, before.count, inside, few) in
                  let read : get_or (set old (10 * n + i) facts) (10 * m + j) other ≡ facts =
                  ap (λ (k : ℕ). get_or (set old (10 * n + i) facts) k other) same ∙ get_or-set_same old (10 * n + i) facts other wide in
                  subst (λ (f : DecoderFacts). AreDecoderFacts s m j e f) (sym read) (own m j e one.0 one.1 one.2)
              | inr apart ↦
                  subst (λ (f : DecoderFacts). AreDecoderFacts s m j e f) (sym (get_or-set_other old (10 * n + i) (10 * m + j) facts other apart))
                  (before.each m j e other (omega (arith, below, apart)) low here committed)
            ]

  -- past its decoders a node has none
  pub node_worked : (n k : ℕ) (all : List DecoderFacts) → length (decoders_at s n) ≤ k → AreFactsBefore s (10 * n + k) all → AreFactsBefore s (10 * (n + 1)) all
  node_worked n k all past before = record {
    count = before.count;
    each = λ m j e other below low here committed.
        elim (cases_lt (10 * m + j) (10 * n + k)) [
          | inl earlier ↦ before.each m j e other earlier low here committed
          | inr at ↦
              let node : m ≡ n = omega (arith, below, at, low) in
              let within = slice_get_within (decoders_at s m) j e here in
              let long = ap (λ (k : ℕ). length (decoders_at s k)) node in
              absurd (omega (arith, below, at, low, node, within, long, past))
        ];
  }

  -- behind one that is not committed none is, and nothing is worked out
  pub idle_rest : StandFirst → IsOrderlySystem s → (n i : ℕ) (d : Decoder) (all : List DecoderFacts) → decoder_at s n i ≡ Some d → d.committed ≡ false
      → AreFactsBefore s (10 * n + i) all → AreFactsBefore s (10 * (n + 1)) all
  idle_rest first ready n i d all there idle before = record {
    count = before.count;
    each = λ m j e other below low here committed.
        elim (cases_lt (10 * m + j) (10 * n + i)) [
          | inl earlier ↦ before.each m j e other earlier low here committed
          | inr at ↦
              let node : m ≡ n = omega (arith, below, at, low) in
              let past : i ≤ j = omega (arith, below, at, low) in
              absurd (false≢true (sym idle ∙ behind j e past (ap (λ (k : ℕ). decoder_at s k j) (sym node) ∙ here) committed))
        ];
  }
    where
      behind : (j : ℕ) (e : Decoder) → i ≤ j → decoder_at s n j ≡ Some e → e.committed ≡ true → d.committed ≡ true
      behind j e past here committed =
          elim (cases_eq i j) [
            | inl same ↦
                let one : d ≡ e = same_Some d e (sym there ∙ ap (decoder_at s n) same ∙ here) in
                ap (λ (x : Decoder). x.committed) one ∙ committed
            | inr apart ↦
                let own = in_block s n i d there in
                first own.block (ram_at s n) (pmem_at s n) i j d e (block_keeps s ready.blocks n own.block own.at) own.there (at_in_block s n own.block own.at j e here) (omega (arith, past, apart)) committed
          ]

  -- what is entered before a place is so before a lower one
  pub fewer_worked : (low high : ℕ) (all : List DecoderFacts) → low ≤ high → AreFactsBefore s high all → AreFactsBefore s low all
  fewer_worked low high all lower before = record {
    count = before.count;
    each = λ n i d other below few here committed. before.each n i d other (omega (arith, below, lower)) few here committed;
  }

  module _ (r : Range) (p : ℕ) where
    -- without a number of the range there is no decoder of it
    pub lacks : index_for s r p ≡ None → decoder_for s r p ≡ None
    lacks none = by_index s r p ∙ ap (option_and_then (slice_get (decoders_at s p))) none

    -- that number is one of the node's decoders
    pub number_within : (i : ℕ) → index_for s r p ≡ Some i → i < length (decoders_at s p)
    number_within i at =
        let found = passes_at (has_range r) (decoders_at s p) i at in
        slice_get_within (decoders_at s p) i found.0 found.1

    -- what is worked out of a port's decoder of a range speaks of that range
    pub port_worked : (i : ℕ) (d : Decoder) (all : List DecoderFacts) (other : DecoderFacts) → AreFactsBefore s (10 * (p + 1)) all → i < 10 → index_for s r p ≡ Some i → decoder_at s p i ≡ Some d
        → ArePortFacts s r p d (get_or all (10 * p + i) other)
    port_worked i d all other before few at there =
        let found = passes_at (has_range r) (decoders_at s p) i at in
        let same : found.0 ≡ d = same_Some found.0 d (sym found.1 ∙ there) in
        let passes : has_range r d ≡ true = ap (has_range r) (sym same) ∙ found.2 in
        let committed : d.committed ≡ true = (and_parts d.committed (d.base == r.base) (and_parts (d.committed && (d.base == r.base)) (d.size == r.size) passes).0).0 in
        let range : range_of d ≡ r = range_is r d passes in
        let facts : AreDecoderFacts s p i d (get_or all (10 * p + i) other) = before.each p i d other (omega (arith, few)) few there committed in
        record {
          has = by_index s r p ∙ ap (option_and_then (slice_get (decoders_at s p))) at ∙ there;
          ways = facts.ways ∙ ap (λ (q : Range). ways_above s q p) range;
          few_ways = facts.few_ways;
          bits = facts.bits ∙ ap (λ (q : Range). bits_above s q p) range;
          few_bits = facts.few_bits;
        }
