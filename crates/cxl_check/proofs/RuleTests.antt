-- The rules K9 to K12 as one test of a decoder, and what is found of all rules and of all decoders of a node.
use Rattle.std.proofs.Common.{◌≡◌, ℕ, ◌+◌, ◌<◌, ◌≤◌, true, false, not, ◌&&◌, length, Option, Some, None, refl, ◌∙◌, inl, inr, arith, below_more}
use Rattle.std.specs.Prelude.{◌==◌}
use Rattle.std.proofs.lemmas.Bool.{eq-eqb, ne_eqb, le-ltb, cases_Bool, cases_lt, eqb-false}
use Rattle.std.proofs.lemmas.Option.{slice_get_past}
use Rattle.cxl_enc.proofs.Tests.{and_false}
use Rattle.cxl_regs.specs.declared.decoder.Decoder.{Decoder}
use Rattle.cxl_model.specs.System.{System, decoders_at, decoder_at}
use Rattle.cxl_span.specs.declared.breach.BlockBreach.{BlockBreach}
use Rattle.cxl_model.specs.Accepted.{breaks, breaks_at, IsOrderlySystem}
use Rattle.cxl_model.proofs.Breaches.{past_rules}
use Rattle.cxl_check.specs.inner.Facts.{keeps_rule}
use Rattle.cxl_check.specs.inner.Found.{IsFoundWithin, IsFoundOfNode}

module _ (s : System) (rule : ℕ) (from : 9 ≤ rule) (to : rule < 13) where
  as_test : (n i : ℕ) → breaks s rule n i ≡ breaks_at s n i (keeps_rule s rule n i)
  unfolding breaks
  as_test n i =
      rw (ne_eqb rule 1 (omega arith), le-ltb rule 9 from)
      (elim (cases_Bool (rule == 9)) [
        | inl nine ↦ rw nine refl
        | inr no_nine ↦ elim (cases_Bool (rule == 10)) [
          | inl ten ↦ rw (no_nine, ten) refl
          | inr no_ten ↦ elim (cases_Bool (rule == 11)) [
            | inl eleven ↦ rw (no_nine, no_ten, eleven) refl
            | inr no_eleven ↦
                let a = eqb-false rule 9 no_nine in
                let b = eqb-false rule 10 no_ten in
                let c = eqb-false rule 11 no_eleven in
                let twelve : (rule == 12) ≡ true = eq-eqb rule 12 (omega arith) in
                rw (no_nine, no_ten, no_eleven, twelve) refl
          ]
        ]
      ])

  -- of a decoder that is there, and of one that is not
  breaks_here : (n i : ℕ) (d : Decoder) → decoder_at s n i ≡ Some d → breaks s rule n i ≡ (d.committed && not (keeps_rule s rule n i d))
  breaks_here n i d there = as_test n i ∙ rw there refl

  -- one that is not committed breaks nothing, and another breaks the rule where it does not keep it
  pub idle_here : (n i : ℕ) (d : Decoder) → decoder_at s n i ≡ Some d → d.committed ≡ false → breaks s rule n i ≡ false
  idle_here n i d there idle = breaks_here n i d there ∙ rw idle refl

  kept_here : (n i : ℕ) (d : Decoder) → decoder_at s n i ≡ Some d → keeps_rule s rule n i d ≡ true → breaks s rule n i ≡ false
  kept_here n i d there keeps = breaks_here n i d there ∙ rw keeps (and_false d.committed)

  pub broken_here : (n i : ℕ) (d : Decoder) → decoder_at s n i ≡ Some d → d.committed ≡ true → keeps_rule s rule n i d ≡ false → breaks s rule n i ≡ true
  broken_here n i d there committed fails = breaks_here n i d there ∙ rw (committed, fails) refl

  -- so where it keeps one rule more, it breaks none below the next
  pub kept_more : (n i : ℕ) (d : Decoder) → decoder_at s n i ≡ Some d → ((lower : ℕ) → lower < rule → breaks s lower n i ≡ false) → keeps_rule s rule n i d ≡ true
      → (lower : ℕ) → lower < rule + 1 → breaks s lower n i ≡ false
  kept_more n i d there below keeps = below_more (λ (m : ℕ). breaks s m n i ≡ false) rule below (kept_here n i d there keeps)

  breaks_none : (n i : ℕ) → decoder_at s n i ≡ None → breaks s rule n i ≡ false
  breaks_none n i none = as_test n i ∙ rw none refl

  pub past_decoders : (n i : ℕ) → length (decoders_at s n) ≤ i → breaks s rule n i ≡ false
  past_decoders n i past = breaks_none n i (slice_get_past (decoders_at s n) i past)

  pub past_nodes : (n i : ℕ) → length s.blocks ≤ n → breaks s rule n i ≡ false
  past_nodes n i past = let none = slice_get_past s.blocks n past in breaks_none n i (rw none refl)

-- ---- all rules

-- where K1 to K8 are kept, a decoder that keeps K9 to K12 breaks nothing
pub all_rules : (s : System) → IsOrderlySystem s → (n i : ℕ) → ((rule : ℕ) → 9 ≤ rule → rule < 13 → breaks s rule n i ≡ false) → (rule : ℕ) → breaks s rule n i ≡ false
all_rules s ready n i late rule =
    elim (cases_lt rule 9) [
      | inl low ↦ ready.blocks rule n i low
      | inr from ↦ elim (cases_lt rule 13) [ inl to ↦ late rule from to | inr past ↦ past_rules s rule n i past ]
    ]

-- what is found of all decoders of a node is what is found of the node
module _ (s : System) (ready : IsOrderlySystem s) (n k : ℕ) (all : length (decoders_at s n) ≤ k) where
  of_all : (rule : ℕ) → ((i : ℕ) → i < k → breaks s rule n i ≡ false) → (i : ℕ) → breaks s rule n i ≡ false
  of_all rule each i =
      elim (cases_lt i k) [
        | inl below ↦ each i below
        | inr beyond ↦ all_rules s ready n i (λ late from to. past_decoders s late from to n i (omega (arith, all, beyond))) rule
      ]

  pub found_of_all : (o : Option BlockBreach) → IsFoundWithin (breaks s) n k o → IsFoundOfNode (breaks s) n o
  found_of_all None found = λ rule i. of_all rule (λ j below. found rule j below) i
  found_of_all (Some b) found = record {
    broken = found.broken;
    rules = λ lower i below. of_all lower (λ j within. found.rules lower j below within) i;
    decoders = found.decoders;
  }
