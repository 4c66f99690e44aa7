-- Any numbers stand in rising order in some list.
use Rattle.std.proofs.Common.{◌≡◌, ℕ, zero, suc, ◌+◌, ◌<◌, Bool, true, false, ◌||◌, cond, List, [], ◌∷◌, length, get_or, refl, sym, ap, ◌∙◌, subst, inl, inr, arith}
use Rattle.std.specs.Prelude.{◌==◌, filter, All}
use Rattle.std.specs.List.{range_with_len}
use Rattle.std.proofs.lemmas.Bool.{or_cases, or_left, or_right, eqb-true, eq-eqb, false≢true}
use Rattle.std.proofs.lemmas.List.Elements.{filter_passes}
use Rattle.std.proofs.lemmas.List.Kept.{AllPairs-filter}
use Rattle.cxl_enc.proofs.Lists.{is_in, in_from, in_is}
use Rattle.cxl_enc.proofs.Numbers.{is_number, numbers_rise}
use Rattle.cxl_pick.specs.Picking.{AreInOrder}

kept_step : (p : ℕ → Bool) (n x : ℕ) (xs : List ℕ) (b : Bool) → p x ≡ b → p n ≡ true → (is_in n xs ≡ true → is_in n (filter p xs) ≡ true) → ((x == n) || is_in n xs) ≡ true
    → is_in n (cond b (x ∷ filter p xs) (filter p xs)) ≡ true
kept_step p n x xs true at passes rest is =
    elim (or_cases (x == n) (is_in n xs) is) [
      | inl here ↦ or_left (x == n) (is_in n (filter p xs)) here
      | inr later ↦ or_right (x == n) (is_in n (filter p xs)) (rest later)
    ]
kept_step p n x xs false at passes rest is =
    elim (or_cases (x == n) (is_in n xs) is) [
      | inl here ↦ absurd (false≢true (sym at ∙ ap p (eqb-true x n here) ∙ passes))
      | inr later ↦ rest later
    ]

-- a member that passes is kept
kept_in : (p : ℕ → Bool) (xs : List ℕ) (n : ℕ) → is_in n xs ≡ true → p n ≡ true → is_in n (filter p xs) ≡ true
kept_in p [] n there passes = absurd (false≢true there)
kept_in p (x ∷ xs) n there passes = kept_step p n x xs (p x) refl passes (λ later. kept_in p xs n later passes) there

are_in_order : (count : ℕ) (given : List ℕ) → All (λ n. n < count) given → AreInOrder given (filter (λ n. is_in n given) (range_with_len 0 count))
are_in_order count given low = record {
  order = AllPairs-filter (λ a b. a < b) (λ n. is_in n given) (range_with_len 0 count) (numbers_rise count);
  same = λ n. (
    (λ there.
        let own = in_from given n there in
        let within : n < count = subst (λ (k : ℕ). k < count) there.2 (low there.0 n there.1) in
        in_is (filter (λ k. is_in k given) (range_with_len 0 count)) n
        (kept_in (λ k. is_in k given) (range_with_len 0 count) n (is_number (λ k. k == n) count n within (eq-eqb n n refl)) own)),
    (λ there.
        in_is given n
        (subst (λ (k : ℕ). is_in k given ≡ true) there.2 (filter_passes (λ k. is_in k given) (range_with_len 0 count) there.0 n there.1))),
  );
}

-- a number above all of them
above_all : (ns : List ℕ) → (count : ℕ) × All (λ n. n < count) ns
above_all [] = (0, λ i d within. absurd (omega arith))
above_all (n ∷ ns) = let rest = above_all ns in (suc n + rest.0, λ i d within. each i d rest.0 rest.1 within)
  where
    each : (i d most : ℕ) → All (λ k. k < most) ns → i < suc (length ns) → get_or (n ∷ ns) i d < suc n + most
    each zero d most low within = omega arith
    each (suc i) d most low within = let less = low i d (omega (arith, within)) in omega (arith, less)

pub ordered : (given : List ℕ) → (set : List ℕ) × AreInOrder given set
ordered given = let most = above_all given in (filter (λ n. is_in n given) (range_with_len 0 most.0), are_in_order most.0 given most.1)
