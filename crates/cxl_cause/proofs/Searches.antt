-- Searches over numbers in a row, over mapped lists, and over all of some nodes.
use Rattle.std.proofs.Common.{◌≡◌, ℕ, zero, suc, ◌+◌, ◌-◌, ◌<◌, ◌≤◌, ◌||◌, Bool, true, false, Some, None, refl, ap, ◌∙◌, subst, arith}
use Rattle.std.specs.Prelude.{find}
use Rattle.std.specs.List.{list_any, range_with_len}
use Rattle.cxl_check.proofs.Numbers.{find_more, any_more}

module _ (p : ℕ → Bool) where
  -- the first of the numbers from a on, k of them passed of n
  pub found_here : (a k n : ℕ) → k < n → p (a + k) ≡ true → find p (range_with_len (a + k) (n - k)) ≡ Some (a + k)
  found_here a k n less passes = let e : n - k ≡ suc (n - (k + 1)) = omega (arith, less) in rw (e, passes) refl

  pub found_later : (a k n : ℕ) → k < n → p (a + k) ≡ false → find p (range_with_len (a + k) (n - k)) ≡ find p (range_with_len (a + (k + 1)) (n - (k + 1)))
  found_later a k n less fails =
      let e : n - k ≡ suc (n - (k + 1)) = omega (arith, less) in
      let next : a + k + 1 ≡ a + (k + 1) = omega arith in
      rw (e, fails) (ap (λ (m : ℕ). find p (range_with_len m (n - (k + 1)))) next)

  pub found_none : (a k n : ℕ) → n ≤ k → find p (range_with_len (a + k) (n - k)) ≡ None
  found_none a k n past = let e : n - k ≡ 0 = omega (arith, past) in rw e refl

  -- what is found among some numbers is found among more
  pub find_longer : (n more k : ℕ) → find p (range_with_len 0 k) ≡ Some n → find p (range_with_len 0 (k + more)) ≡ Some n
  find_longer n zero k is = subst (λ (m : ℕ). find p (range_with_len 0 m) ≡ Some n) (omega arith) is
  find_longer n (suc more) k is =
      let before = find_longer n more k is in
      let next : k + more + 1 ≡ k + suc more = omega arith in
      subst (λ (m : ℕ). find p (range_with_len 0 m) ≡ Some n) next (find_more p (k + more) ∙ rw before refl)

  -- the first number of which it holds, where it holds of none before
  pub found_first : (n k : ℕ) → n < k → find p (range_with_len 0 n) ≡ None → p n ≡ true → find p (range_with_len 0 k) ≡ Some n
  found_first n k less none passes =
      let upto : find p (range_with_len 0 (n + 1)) ≡ Some n = find_more p n ∙ rw (none, passes) refl in
      let rest : n + 1 + (k - (n + 1)) ≡ k = omega (arith, less) in
      subst (λ (m : ℕ). find p (range_with_len 0 m) ≡ Some n) rest (find_longer n (k - (n + 1)) (n + 1) upto)

  pub none_more : (n : ℕ) → find p (range_with_len 0 n) ≡ None → p n ≡ false → find p (range_with_len 0 (n + 1)) ≡ None
  none_more n none fails = find_more p n ∙ rw (none, fails) refl

  -- one of some numbers is one of more
  pub any_here : (n k : ℕ) → n < k → p n ≡ true → list_any p (range_with_len 0 k) ≡ true
  any_here n k less passes =
      let rest : n + 1 + (k - (n + 1)) ≡ k = omega (arith, less) in
      subst (λ (m : ℕ). list_any p (range_with_len 0 m) ≡ true) rest (longer (k - (n + 1)))
    where
      or_true : (a b : Bool) → b ≡ true → (a || b) ≡ true
      or_true true b is = refl
      or_true false b is = is

      longer : (more : ℕ) → list_any p (range_with_len 0 (n + 1 + more)) ≡ true
      longer zero = subst (λ (m : ℕ). list_any p (range_with_len 0 m) ≡ true) (omega arith) (any_more p n ∙ or_true (list_any p (range_with_len 0 n)) (p n) passes)
      longer (suc more) =
          let next : n + 1 + more + 1 ≡ n + 1 + suc more = omega arith in
          subst (λ (m : ℕ). list_any p (range_with_len 0 m) ≡ true) next (any_more p (n + 1 + more) ∙ rw (longer more) refl)
