-- One candidate more is tried.
use Rattle.std.proofs.Common.{◌≡◌, ℕ, ◌+◌, ◌*◌, ◌<◌, ◌≤◌, List, [], ◌∷◌, ◌++◌, get_or, sym, ap, subst, ◌∙◌, inl, inr, arith}
use Rattle.std.specs.Prelude.{Contains}
use Rattle.std.proofs.Math.Nat.{add-mul, one-mul}
use Rattle.std.proofs.lemmas.Bool.{cases_lt}
use Rattle.std.proofs.lemmas.List.{get_or_default}
use Rattle.std.proofs.lemmas.List.Elements.{Contains-push, Contains-push_cases, Contains-append_left}
use Rattle.std.proofs.lemmas.List.Quantifiers.{all_pairs_push}
use Rattle.cxl_enc.proofs.Lists.{contains_none}
use Rattle.cxl_model.specs.System.{System}
use Rattle.cxl_trace.specs.HostLists.{Reaches}
use Rattle.cxl_trace.specs.inner.Candidates.{AreReached}

next : (k apart : ℕ) → (k + 1) * apart ≡ k * apart + apart
next k apart = let more = add-mul k 1 apart in let one = one-mul apart in omega (arith, more, one)

same_number : (j k : ℕ) → j < k + 1 → k ≤ j → j ≡ k
same_number j k less past = omega (arith, less, past)

module _ (s : System) (ep dpa first apart : ℕ) (some : 0 < apart) where
  pub none_yet : AreReached s ep dpa first apart 0 []
  none_yet = record {
    rising = λ i j d less within. absurd (omega (arith, within));
    below = λ h has. absurd (contains_none h has);
    only = λ h has. absurd (contains_none h has);
    all = λ k less. absurd (omega (arith, less));
  }

  module _ (k : ℕ) (hosts : List ℕ) (are : AreReached s ep dpa first apart k hosts) (h : ℕ) (is : h ≡ first + k * apart) where
    pub passed : (Reaches s ep dpa h → ⊥) → AreReached s ep dpa first apart (k + 1) hosts
    passed not_here = record {
      rising = are.rising;
      below = λ other has. let under = are.below other has in omega (arith, under, next k apart);
      only = are.only;
      all = λ j less reaches. elim (cases_lt j k) [
        | inl before ↦ are.all j before reaches
        | inr past ↦
            let same : first + j * apart ≡ h = ap (λ (i : ℕ). first + i * apart) (same_number j k less past) ∙ sym is in
            absurd (not_here (subst (λ (a : ℕ). Reaches s ep dpa a) same reaches))
      ];
    }

    pub taken : Reaches s ep dpa h → AreReached s ep dpa first apart (k + 1) (hosts ++ h ∷ [])
    taken here = record {
      rising = all_pairs_push (λ a b. a < b) hosts h are.rising
          (λ i d within. let under = are.below (get_or hosts i d) (i, within, get_or_default hosts i (get_or hosts i d) d within) in omega (arith, under, is));
      below = λ other has. elim (Contains-push_cases hosts h other has) [
        | inl before ↦ let under = are.below other before in omega (arith, under, next k apart)
        | inr same ↦ omega (arith, same, is, some, next k apart)
      ];
      only = λ other has. elim (Contains-push_cases hosts h other has) [
        | inl before ↦ are.only other before
        | inr same ↦ subst (λ (a : ℕ). Reaches s ep dpa a) same here
      ];
      all = λ j less reaches. elim (cases_lt j k) [
        | inl before ↦ Contains-append_left hosts (h ∷ []) (first + j * apart) (are.all j before reaches)
        | inr past ↦
            let same : h ≡ first + j * apart = is ∙ ap (λ (i : ℕ). first + i * apart) (sym (same_number j k less past)) in
            subst (λ (a : ℕ). Contains (hosts ++ h ∷ []) a) same (Contains-push hosts h)
      ];
    }
