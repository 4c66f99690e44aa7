-- Searches over the numbers below k, and what the next number adds.
use Rattle.std.proofs.Common.{◌≡◌, ℕ, zero, suc, ◌+◌, ◌<◌, Bool, true, false, ◌||◌, [], ◌∷◌, Option, Some, None, refl, sym, ap, ◌∙◌, inl, inr, arith, if◌then◌else◌}
use Rattle.std.specs.Prelude.{find, is_some}
use Rattle.std.specs.Option.{option_or}
use Rattle.std.specs.List.{list_any, range_with_len}
use Rattle.std.proofs.lemmas.Bool.{cases_Bool, false≢true}
use Rattle.std.proofs.lemmas.Option.{none-some, same_Some}
use Rattle.std.proofs.lemmas.List.Folds.{find-append, list_any-append}
use Rattle.cxl_enc.proofs.Numbers.{numbers_more}

or_some : {X : Type 0} (o : Option X) (x : X) → is_some (option_or o (Some x)) ≡ true
or_some None x = refl
or_some (Some y) x = refl

module _ (p : ℕ → Bool) where
  find_one : (k : ℕ) → find p (k ∷ []) ≡ (if p k then Some k else None)
  find_one k = elim (cases_Bool (p k)) [ inl e ↦ rw e refl | inr e ↦ rw e refl ]

  any_one : (k : ℕ) → list_any p (k ∷ []) ≡ p k
  any_one k = elim (cases_Bool (p k)) [ inl e ↦ rw e refl | inr e ↦ rw e refl ]

  pub find_more : (k : ℕ) → find p (range_with_len 0 (k + 1)) ≡ option_or (find p (range_with_len 0 k)) (if p k then Some k else None)
  find_more k =
      let e : 0 + k ≡ k = omega arith in
      ap (find p) (numbers_more 0 k) ∙ find-append p (range_with_len 0 k) ((0 + k) ∷ []) ∙ rw e (rw (find_one k) refl)

  -- where the last number passes, some number does
  pub some_before : (n k : ℕ) → n ≡ k + 1 → p k ≡ true → is_some (find p (range_with_len 0 n)) ≡ true
  some_before n k is passes = rw is (rw (find_more k) (rw passes (or_some (find p (range_with_len 0 k)) k)))

  pub any_more : (k : ℕ) → list_any p (range_with_len 0 (k + 1)) ≡ (list_any p (range_with_len 0 k) || p k)
  any_more k =
      let e : 0 + k ≡ k = omega arith in
      ap (list_any p) (numbers_more 0 k) ∙ list_any-append p (range_with_len 0 k) ((0 + k) ∷ []) ∙ rw e (rw (any_one k) refl)

  found_from : (a k n : ℕ) → find p (range_with_len a k) ≡ Some n → (n < a + k) × (p n ≡ true)
  found_from a zero n is = absurd (none-some n is)
  found_from a (suc k) n is =
      elim (cases_Bool (p a)) [
        | inl e ↦
            let same : a ≡ n = same_Some a n (rw e at is) in
            (omega arith, ap p (sym same) ∙ e)
        | inr e ↦
            let later = found_from (a + 1) k n (rw e at is) in
            let below = later.0 in
            (omega arith, later.1)
      ]

  -- what is found lies below k and passes
  pub found : (k n : ℕ) → find p (range_with_len 0 k) ≡ Some n → (n < k) × (p n ≡ true)
  found k n is = let at = found_from 0 k n is in let below = at.0 in (omega arith, at.1)

-- entered once or twice under one number
pub or_twice : {X : Type 0} (o : Option X) (x : X) (p q : Bool) → option_or (option_or o (if p then Some x else None)) (if q then Some x else None) ≡ option_or o (if p || q then Some x else None)
or_twice (Some y) x true q = refl
or_twice (Some y) x false q = refl
or_twice None x true q = refl
or_twice None x false q = refl

-- what is there stays, whatever is entered after it
pub or_known : {X : Type 0} (o : Option X) (x : X) (p q : Bool) → (q ≡ true → is_some o ≡ true) → option_or o (if p then Some x else None) ≡ option_or o (if p || q then Some x else None)
or_known (Some y) x p q known = refl
or_known None x true q known = refl
or_known None x false true known = absurd (false≢true (known refl))
or_known None x false false known = refl

pub or_none : {X : Type 0} (o : Option X) → option_or o None ≡ o
or_none None = refl
or_none (Some x) = refl
