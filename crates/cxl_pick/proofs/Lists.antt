-- As many numbers pass a test as are listed, and what is found in a list.
use Rattle.std.proofs.Common.{◌≡◌, ℕ, ◌+◌, ◌<◌, Bool, true, false, ◌&&◌, ◌||◌, cond, List, [], ◌∷◌, length, get_or, Option, Some, refl, sym, ap, ◌∙◌, inl, inr, arith}
use Rattle.std.specs.Prelude.{◌==◌, All, filter, find}
use Rattle.std.specs.List.{list_any, list_all, range_with_len}
use Rattle.std.proofs.lemmas.List.Sums.{AllPass-from_list_all}
use Rattle.std.proofs.lemmas.Bool.{and_parts, or_cases, or_left, or_right, eqb-true, false≢true}
use Rattle.std.proofs.lemmas.List.Folds.{Any-from_list_any}
use Rattle.cxl_enc.proofs.Lists.{is_in}
use Rattle.cxl_enc.proofs.Tests.{and_true}
use Rattle.cxl_model.specs.Rules.{are_distinct}
use Rattle.cxl_model.proofs.Sums.{one, total, length-filter-total, total-same, exchange, once, total_each, length_total, once_below}

-- ---- sums over numbers that are listed

both_listed : (p : ℕ → Bool) (m : ℕ) (xs : List ℕ) → (is_in m xs && p m) ≡ list_any (λ e. (e == m) && p m) xs
both_listed p m [] = refl
both_listed p m (x ∷ xs) = joined (x == m) (is_in m xs) (p m) ∙ ap (λ b. ((x == m) && p m) || b) (both_listed p m xs)
  where
    joined : (a b c : Bool) → ((a || b) && c) ≡ ((a && c) || (b && c))
    joined true true true = refl
    joined true true false = refl
    joined true false true = refl
    joined true false false = refl
    joined false b c = refl

once_listed : (p : ℕ → Bool) (xs : List ℕ) → are_distinct xs ≡ true → (m : ℕ) → one (is_in m xs && p m) ≡ total (λ e. one ((e == m) && p m)) xs
once_listed p xs distinct m = ap one (both_listed p m xs) ∙ sym (once (λ e. (e == m) && p m) same xs distinct)
  where
    same : (a b : ℕ) → ((a == m) && p m) ≡ true → ((b == m) && p m) ≡ true → a ≡ b
    same a b first second = eqb-true a m (and_parts (a == m) (p m) first).0 ∙ sym (eqb-true b m (and_parts (b == m) (p m) second).0)

-- of numbers that differ and are below n, as many pass a test as of the numbers below n that are listed
listed_total : (n : ℕ) (p : ℕ → Bool) (xs : List ℕ) → are_distinct xs ≡ true → All (λ x. x < n) xs
    → total (λ m. one (is_in m xs && p m)) (range_with_len 0 n) ≡ total (λ x. one (p x)) xs
listed_total n p xs distinct within =
    total-same (λ m. one (is_in m xs && p m)) (λ m. total (λ e. one ((e == m) && p m)) xs) (once_listed p xs distinct) (range_with_len 0 n)
    ∙ exchange (λ m e. one ((e == m) && p m)) (range_with_len 0 n) xs
    ∙ total_each (λ e. total (λ m. one ((e == m) && p m)) (range_with_len 0 n)) (λ e. one (p e)) xs (λ k d inside. once_below p n (get_or xs k d) (within k d inside))

-- two lists of numbers that differ, where the second has those of the first that pass a test
pub same_length : (n : ℕ) (p : ℕ → Bool) (xs ys : List ℕ) → are_distinct xs ≡ true → are_distinct ys ≡ true → All (λ x. x < n) xs → All (λ x. x < n) ys
    → ((m : ℕ) → (is_in m xs && p m) ≡ is_in m ys) → length (filter p xs) ≡ length ys
same_length n p xs ys distinct differ low below same =
    length-filter-total p xs
    ∙ sym (listed_total n p xs distinct low)
    ∙ total-same (λ m. one (is_in m xs && p m)) (λ m. one (is_in m ys && true)) (λ m. ap one (same m ∙ sym (and_true (is_in m ys)))) (range_with_len 0 n)
    ∙ listed_total n (λ m. true) ys differ below
    ∙ length_total ys

-- ---- filters

kept_total : {X : Type 0} (f : X → ℕ) (x : X) (xs : List X) (b : Bool) → (b ≡ false → f x ≡ 0) → total f (cond b (x ∷ xs) xs) ≡ f x + total f xs
kept_total f x xs true none = refl
kept_total f x xs false none = let nothing = none refl in omega (arith, nothing)

-- what is dropped adds nothing
pub filter_total : {X : Type 0} (f : X → ℕ) (p : X → Bool) → ((x : X) → p x ≡ false → f x ≡ 0) → (xs : List X) → total f (filter p xs) ≡ total f xs
filter_total f p none [] = refl
filter_total f p none (x ∷ xs) = kept_total f x (filter p xs) (p x) (none x) ∙ ap (λ n. f x + n) (filter_total f p none xs)

-- ---- what is found

found_step : {X : Type 0} (b any : Bool) (y : X) (o : Option X) → (any ≡ true → (x : X) × (o ≡ Some x)) → (b || any) ≡ true → (x : X) × (cond b (Some y) o ≡ Some x)
found_step true any y o rest is = (y, refl)
found_step false any y o rest is = rest is

pub found : {X : Type 0} (p : X → Bool) (xs : List X) → list_any p xs ≡ true → (x : X) × (find p xs ≡ Some x)
found p [] any = absurd (false≢true any)
found p (y ∷ ys) any = found_step (p y) (list_any p ys) y (find p ys) (found p ys) any

-- ---- members

-- what all pass, one of them passes
pub in_passes : (p : ℕ → Bool) (xs : List ℕ) (n : ℕ) → list_all p xs ≡ true → is_in n xs ≡ true → p n ≡ true
in_passes p xs n all there =
    let some = Any-from_list_any (λ m. m == n) xs there in
    let at : get_or xs some.0 some.1 ≡ n = some.3 ∙ eqb-true some.1 n some.4 in
    ap p (sym at) ∙ AllPass-from_list_all p xs all some.0 some.1 some.2

kept_step : (p : ℕ → Bool) (n x : ℕ) (xs : List ℕ) (b : Bool) → p x ≡ b → p n ≡ true → (is_in n xs ≡ true → is_in n (filter p xs) ≡ true) → ((x == n) || is_in n xs) ≡ true
    → is_in n (cond b (x ∷ filter p xs) (filter p xs)) ≡ true
kept_step p n x xs true at passes rest is =
    elim (or_cases (x == n) (is_in n xs) is) [
      | inl here ↦ or_left (x == n) (is_in n (filter p xs)) here
      | inr later ↦ or_right (x == n) (is_in n (filter p xs)) (rest later)
    ]
kept_step p n x xs false at passes rest is =
    elim (or_cases (x == n) (is_in n xs) is) [
      | inl here ↦ absurd (false≢true (sym at ∙ ap p (eqb-true x n here) ∙ passes))
      | inr later ↦ rest later
    ]

-- a member that passes is kept
pub kept_in : (p : ℕ → Bool) (xs : List ℕ) (n : ℕ) → is_in n xs ≡ true → p n ≡ true → is_in n (filter p xs) ≡ true
kept_in p [] n there passes = absurd (false≢true there)
kept_in p (x ∷ xs) n there passes = kept_step p n x xs (p x) refl passes (λ later. kept_in p xs n later passes) there
