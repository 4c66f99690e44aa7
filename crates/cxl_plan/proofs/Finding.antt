-- First places in lists, and lists of the numbers that pass a test.
use Rattle.std.proofs.Common.{◌≡◌, ℕ, zero, suc, ◌+◌, ◌<◌, ◌≤◌, Bool, true, false, List, [], ◌∷◌, length, get_or, filter, Some, None, refl, sym, ap, ◌∙◌, inl, inr, arith}
use Rattle.std.specs.Prelude.{find}
use Rattle.std.specs.List.{range_with_len}
use Rattle.std.proofs.lemmas.Bool.{cases_Bool, cases_eq, false≢true}
use Rattle.std.proofs.lemmas.Option.{none-some}

module _ (p : ℕ → Bool) where
  -- the first item that passes
  pub find_here : (xs : List ℕ) (i : ℕ) → i < length xs → ((k : ℕ) → k < i → p (get_or xs k 0) ≡ false) → p (get_or xs i 0) ≡ true → find p xs ≡ Some (get_or xs i 0)
  find_here [] i lt before here = absurd (omega arith)
  find_here (x ∷ xs) zero lt before here = rw here refl
  find_here (x ∷ xs) (suc i) lt before here =
      let first : p x ≡ false = before 0 (omega arith) in
      rw first (find_here xs i (omega arith) (λ k below. before (suc k) (omega arith)) here)

  pub find_none : (xs : List ℕ) → ((k : ℕ) → k < length xs → p (get_or xs k 0) ≡ false) → find p xs ≡ None
  find_none [] none = refl
  find_none (x ∷ xs) none =
      let first : p x ≡ false = none 0 (omega arith) in
      rw first (find_none xs (λ k below. none (suc k) (omega arith)))

  -- what passes among the items that pass a weaker test
  pub find_filtered : (q : ℕ → Bool) → ((n : ℕ) → p n ≡ true → q n ≡ true) → (xs : List ℕ) → find p (filter q xs) ≡ find p xs
  find_filtered q weaker [] = refl
  find_filtered q weaker (x ∷ xs) =
      elim (cases_Bool (q x)) [
        | inl passes ↦ rw passes (elim (cases_Bool (p x)) [ inl here ↦ rw here refl | inr fails ↦ rw fails (find_filtered q weaker xs) ])
        | inr not_q ↦
            elim (cases_Bool (p x)) [
              | inl here ↦ absurd (false≢true (sym not_q ∙ weaker x here))
              | inr fails ↦ rw (not_q, fails) (find_filtered q weaker xs)
            ]
      ]

  -- none of the numbers passes
  pub none_found : (a n : ℕ) → find p (range_with_len a n) ≡ None → (k : ℕ) → a ≤ k → k < a + n → p k ≡ false
  none_found a zero none k from below = absurd (omega arith)
  none_found a (suc n) none k from below =
      elim (cases_Bool (p a)) [
        | inl passes ↦ absurd (none-some a (sym none ∙ rw passes refl))
        | inr fails ↦ elim (cases_eq a k) [
          | inl same ↦ ap p (sym same) ∙ fails
          | inr other ↦ none_found (a + 1) n (rw fails at none) k (omega arith) (omega arith)
        ]
      ]
