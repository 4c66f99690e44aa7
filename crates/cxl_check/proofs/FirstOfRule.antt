-- All breaches of the first broken rule begin with the first breach.
use Rattle.std.proofs.Common.{◌≡◌, ℕ, ◌<◌, ◌≤◌, true, false, Option, Some, None, List, [], ◌∷◌, length, refl, sym, ap, ◌∙◌, inl, inr, arith, suc, zero}
use Rattle.std.specs.Prelude.{◌==◌, Contains}
use Rattle.std.specs.Option.{option_eq}
use Rattle.std.proofs.lemmas.Bool.{cases_Bool, cases_lt, eq-eqb, ne_eqb, false≢true}
use Rattle.cxl_model.specs.System.{System}
use Rattle.cxl_model.specs.Accepted.{breaks, breaks_block, IsFirstBreach, IsOrderlySystem}
use Rattle.cxl_model.proofs.OtherBlocks.{block_rule}
use Rattle.cxl_check.proofs.RuleTests.{all_rules, past_nodes}
use Rattle.cxl_check.proofs.FirstBreaches.{IsBlockRule, block_rule_of, block_past, first_where_some}
use Rattle.cxl_check.proofs.Spots.{all_spots}
use Rattle.cxl_check.specs.declared.fault.Breach.{Breach}
use Rattle.cxl_check.specs.Breaches.{StandsBefore, AreBreachesOf, AreFirstBreaches}
use Rattle.cxl_check.specs.Spots.{Keeps}
use Rattle.cxl_check.specs.inner.Found.{IsFoundAmong, IsLeastBrokenAt}
use Rattle.cxl_check.specs.inner.Listed.{AreSpotsBefore}

-- nothing stands before itself, and no two places stand before each other
not_before : (m i n k : ℕ) → StandsBefore m i n k → StandsBefore n k m i → ⊥
not_before m i n k (inl a) (inl b) = omega arith
not_before m i n k (inl a) (inr b) = omega arith
not_before m i n k (inr a) (inl b) = omega arith
not_before m i n k (inr a) (inr b) = omega arith

not_itself : (m i : ℕ) → StandsBefore m i m i → ⊥
not_itself m i before = not_before m i m i before before

module _ (s : System) (b : Breach) (others : List Breach) (are : AreBreachesOf s b.rule (b ∷ others)) where
  -- no place before the first of them breaks the rule
  none_before : (m i : ℕ) → StandsBefore m i b.node b.decoder → breaks s b.rule m i ≡ true → ⊥
  none_before m i before broken = go (are.all m i broken)
    where
      place : Breach
      place = record { rule = b.rule; node = m; decoder = i }

      go : Contains (b ∷ others) (record { rule = b.rule; node = m; decoder = i }) → ⊥
      go (zero, within, is) =
          let node : b.node ≡ m = ap (λ (x : Breach). x.node) is in
          let decoder : b.decoder ≡ i = ap (λ (x : Breach). x.decoder) is in
          not_itself m i (rw (node, decoder) at before)
      go (suc k, within, is) =
          let later = are.rising 0 (suc k) (record { rule = b.rule; node = m; decoder = i }) (omega arith) within in
          let behind : StandsBefore b.node b.decoder m i = rw is at later in
          not_before m i b.node b.decoder before behind

  kept_before : (m i : ℕ) → StandsBefore m i b.node b.decoder → breaks s b.rule m i ≡ false
  kept_before m i before =
      elim (cases_Bool (breaks s b.rule m i)) [ inl broken ↦ absurd (none_before m i before broken) | inr kept ↦ kept ]

  begins_with_first : ((lower n i : ℕ) → lower < b.rule → breaks s lower n i ≡ false) → IsFirstBreach s b.rule b.node b.decoder
  begins_with_first rules = record {
    broken = (are.each 0 b (omega arith)).broken;
    rules = rules;
    nodes = λ lower i below. kept_before lower i (inl below);
    decoders = λ lower below. kept_before b.node lower (inr (refl, below));
  }

pub first_breaches : (s : System) (rule n i : ℕ) → IsFirstBreach s rule n i → (found : List Breach) → AreBreachesOf s rule found → AreFirstBreaches s found
first_breaches s rule n i first [] are = absurd (let there = are.all n i first.broken in omega arith)
first_breaches s rule n i first (b ∷ others) are =
    let same : rule ≡ b.rule = sym ((are.each 0 b (omega arith)).of) in
    let own : AreBreachesOf s b.rule (b ∷ others) = rw same at are in
    (begins_with_first s b others own (λ lower m j below. first.rules lower m j (omega arith)), own)

-- the places of the rule of blocks that is found first are its breaches
pub of_blocks : (s : System) → Keeps s 1 → length s.blocks ≡ length s.nodes → (b : Breach) → IsFoundAmong (breaks_block s) (length s.nodes) (Some b)
    → (found : List Breach) → AreSpotsBefore (breaks_block s b.rule) b.rule (length s.nodes) 0 found → AreFirstBreaches s found
of_blocks s caps count b first found spots =
    let of : IsBlockRule s b.rule = block_rule_of s b.rule b.node b.decoder first.broken in
    let from = of.from in
    first_breaches s b.rule b.node b.decoder (first_where_some s caps count (Some b) first) found
    (all_spots (breaks_block s b.rule) b.rule s (length s.nodes) found
    (λ m i. block_rule s b.rule m i (λ one. omega (arith, from, one)) of.to)
    (λ m i past. block_past s b.rule m i (omega (arith, count, past))) spots)

-- where no lower rule is broken, a decoder breaks the rule where it is the least that it breaks
pub least_is : (s : System) (n i rule : ℕ) → ((lower : ℕ) → lower < rule → breaks s lower n i ≡ false) → (least : Option ℕ) → IsLeastBrokenAt (breaks s) n i least → option_eq ◌==◌ least (Some rule) ≡ breaks s rule n i
least_is s n i rule kept None none = sym (none rule)
least_is s n i rule kept (Some r) least =
    elim (cases_lt r rule) [
      | inl lower ↦ absurd (false≢true (sym (kept r lower) ∙ least.broken))
      | inr from ↦ elim (cases_lt rule r) [
        | inl below ↦ ne_eqb r rule (omega arith) ∙ sym (least.rules rule below)
        | inr to ↦ let same : r ≡ rule = omega arith in eq-eqb r rule same ∙ sym (rw same at least.broken)
      ]
    ]

-- no decoder past the nodes breaks a rule
pub none_past : (s : System) → IsOrderlySystem s → (rule m i : ℕ) → length s.nodes ≤ m → breaks s rule m i ≡ false
none_past s ready rule m i past =
    let count = ready.system.caps.count in
    all_rules s ready m i (λ late from to. past_nodes s late from to m i (omega (arith, count, past))) rule
