-- An image is accepted exactly where the rules on blocks hold of it and each committed range is whole.
use Rattle.std.proofs.Common.{◌≡◌, ◌↔◌, ℕ, ◌≤◌, Bool, true, false, Some, None, refl, inl, inr, arith}
use Rattle.std.specs.Prelude.{◌==◌}
use Rattle.std.proofs.lemmas.Bool.{ne_eqb, le-ltb, cases_lt, cases_Bool}
use Rattle.std.proofs.lemmas.Map.Keys.{any_passes_from_place}
use Rattle.cxl_enc.proofs.Tests.{either}
use Rattle.cxl_enc.proofs.Options.{cases_Option}
use Rattle.cxl_regs.specs.declared.decoder.Decoder.{Decoder}
use Rattle.cxl_regs.specs.declared.reading.Range.{Range}
use Rattle.cxl_regs.specs.Reading.{range_of, has_range}
use Rattle.cxl_regs.proofs.DecoderRanges.{has_own_range}
use Rattle.cxl_model.specs.System.{System, decoders_at, decoder_at}
use Rattle.cxl_model.specs.Ranges.{IsCommittedRange}
use Rattle.cxl_model.specs.Rules.{keeps_window, keeps_targets, keeps_reach, keeps_ways}
use Rattle.cxl_model.specs.Accepted.{breaks, breaks_at, IsAccepted, KeepsBlocks, IsWhole}

-- K9 to K12 say nothing where no committed decoder is
from_nine : (P : Bool → Type 0) (s : System) (rule n i : ℕ) → 9 ≤ rule → ((keeps : Decoder → Bool) → P (breaks_at s n i keeps)) → P false
    → P (breaks s rule n i)
unfolding breaks
from_nine P s rule n i high at past =
    rw (ne_eqb rule 1 (omega arith), le-ltb rule 9 high)
    (either P (rule == 9) _ _ (at (keeps_window s n i))
    (either P (rule == 10) _ _ (at (keeps_targets s n))
    (either P (rule == 11) _ _ (at (keeps_reach s n))
    (either P (rule == 12) _ _ (at (keeps_ways s n i)) past))))

kept_at_none : (s : System) (rule n i : ℕ) → 9 ≤ rule → decoder_at s n i ≡ None → breaks s rule n i ≡ false
kept_at_none s rule n i high none = from_nine (λ b. b ≡ false) s rule n i high (λ keeps. rw none refl) refl

kept_at_other : (s : System) (rule n i : ℕ) (d : Decoder) → 9 ≤ rule → decoder_at s n i ≡ Some d → d.committed ≡ false → breaks s rule n i ≡ false
kept_at_other s rule n i d high here other = from_nine (λ b. b ≡ false) s rule n i high (λ keeps. rw (here, other) refl) refl

-- the range of a committed decoder is one of the image
is_range : (s : System) (n i : ℕ) (d : Decoder) → decoder_at s n i ≡ Some d → d.committed ≡ true → IsCommittedRange s (range_of d)
is_range s n i d here committed = (n, any_passes_from_place (has_range (range_of d)) (decoders_at s n) i d here (has_own_range d committed))

wholes_keep : (s : System) → ((r : Range) → IsCommittedRange s r → IsWhole s r) → (rule n i : ℕ) → 9 ≤ rule → breaks s rule n i ≡ false
wholes_keep s whole rule n i high =
    elim (cases_Option (decoder_at s n i)) [
      | inl none ↦ kept_at_none s rule n i high none
      | inr there ↦
          let d = there.0 in
          elim (cases_Bool d.committed) [
            | inl committed ↦ (whole (range_of d) (is_range s n i d there.1 committed)).range rule n i d high there.1 (has_own_range d committed)
            | inr other ↦ kept_at_other s rule n i d high there.1 other
          ]
    ]

pub accepted_where_whole : (s : System) → IsAccepted s ↔ (KeepsBlocks s × ((r : Range) → IsCommittedRange s r → IsWhole s r))
accepted_where_whole s = (
  (λ accepted. (
    (λ rule n i low. accepted.each rule n i),
    (λ r committed. record { blocks = λ rule n i low. accepted.each rule n i; range = λ rule n i d high here of_range. accepted.each rule n i }),
  )),
  (λ kept. record { each = λ rule n i. elim (cases_lt rule 9) [ inl low ↦ kept.0 rule n i low | inr high ↦ wholes_keep s kept.1 rule n i high ] }),
)
