-- Elements of a list that differ, and a list of what is told of each.
use Rattle.std.proofs.Common.{◌≡◌, ℕ, suc, ◌<◌, List, [], ◌∷◌, length, get_or, refl, ap, subst, inl, inr, arith}
use Rattle.std.specs.Prelude.{Contains}
use Rattle.std.specs.List.Sorted.{IsStrictlyIncreasing, IsStrictlySortedBy}
use Rattle.std.specs.Ordering.{nat_cmp}
use Rattle.std.proofs.lemmas.Map.Keys.{sorted_from_strictly_increasing, below_from_sorted, sorted_tail}
use Rattle.cxl_enc.proofs.Lists.{contains_head, contains_tail, contains_cases, contains_none}

-- no element stands twice
abbrev pub AreApart : {X : Type 0} → List X → Type 0
AreApart [] = Unit {0}
AreApart (x ∷ xs) = (Contains xs x → ⊥) × AreApart xs

-- numbers that rise differ
sorted_apart : (ns : List ℕ) → IsStrictlySortedBy nat_cmp ns → AreApart ns
sorted_apart [] sorted = tt
sorted_apart (n ∷ ns) sorted = (
  λ there.
      let within = there.1 in
      let below : n < get_or ns there.0 n = below_from_sorted (n ∷ ns) 0 (suc there.0) n sorted (omega arith) (omega arith) in
      omega (arith, below, there.2),
  sorted_apart ns (sorted_tail nat_cmp n ns sorted),
)

pub rising_apart : (ns : List ℕ) → IsStrictlyIncreasing ns → AreApart ns
rising_apart ns rising = sorted_apart ns (sorted_from_strictly_increasing ns rising)

-- ---- what is told of each element

module _ {A K : Type 0} (At : A → K → Type 0) where
  -- one of the things that are told of each
  pub picked : (xs : List A) → ((x : A) → Contains xs x → (k : K) × At x k) → List K
  picked [] tells = []
  picked (x ∷ xs) tells = (tells x (contains_head x xs)).0 ∷ picked xs (λ y there. tells y (contains_tail x y xs there))

  pub length-picked : (xs : List A) (tells : (x : A) → Contains xs x → (k : K) × At x k) → length (picked xs tells) ≡ length xs
  unfolding picked
  length-picked [] tells = refl
  length-picked (x ∷ xs) tells = ap suc (length-picked xs (λ y there. tells y (contains_tail x y xs there)))

  pub picked_from : (xs : List A) (tells : (x : A) → Contains xs x → (k : K) × At x k) (k : K) → Contains (picked xs tells) k → (x : A) × Contains xs x × At x k
  unfolding picked
  picked_from [] tells k there = absurd (contains_none k there)
  picked_from (x ∷ xs) tells k there =
      let first = tells x (contains_head x xs) in
      let rest = picked xs (λ y within. tells y (contains_tail x y xs within)) in
      elim (contains_cases first.0 k rest there) [
        | inl here ↦ (x, contains_head x xs, subst (At x) here first.1)
        | inr later ↦
            let found = picked_from xs (λ y within. tells y (contains_tail x y xs within)) k later in
            (found.0, contains_tail x found.0 xs found.1, found.2)
      ]

  pub picked_to : ((x : A) (k l : K) → At x k → At x l → k ≡ l) → (xs : List A) (tells : (x : A) → Contains xs x → (k : K) × At x k) (x : A) (k : K) → Contains xs x → At x k → Contains (picked xs tells) k
  unfolding picked
  picked_to one [] tells x k there at = absurd (contains_none x there)
  picked_to one (y ∷ ys) tells x k there at =
      let first = tells y (contains_head y ys) in
      let later : (z : A) → Contains ys z → (l : K) × At z l = λ z within. tells z (contains_tail y z ys within) in
      elim (contains_cases y x ys there) [
        | inl here ↦
            let same : first.0 ≡ k = one x first.0 k (subst (λ (z : A). At z first.0) here first.1) at in
            subst (Contains (first.0 ∷ picked ys later)) same (contains_head first.0 (picked ys later))
        | inr within ↦ contains_tail first.0 k (picked ys later) (picked_to one ys later x k within at)
      ]

  pub apart-picked : ((x y : A) (k : K) → At x k → At y k → x ≡ y) → (xs : List A) (tells : (x : A) → Contains xs x → (k : K) × At x k) → AreApart xs → AreApart (picked xs tells)
  unfolding picked
  apart-picked tell [] tells apart = tt
  apart-picked tell (x ∷ xs) tells apart =
      let first = tells x (contains_head x xs) in
      let later : (z : A) → Contains xs z → (l : K) × At z l = λ z within. tells z (contains_tail x z xs within) in (
        λ there.
            let found = picked_from xs later first.0 there in
            let same : found.0 ≡ x = tell found.0 x first.0 found.2 first.1 in
            apart.0 (subst (Contains xs) same found.1),
        apart-picked tell xs later apart.1,
      )
