-- The first of several answers, and what stands first in a list.
use Rattle.std.proofs.Common.{◌≡◌, ℕ, zero, suc, ◌+◌, ◌<◌, ◌≤◌, Bool, true, false, List, [], ◌∷◌, length, Option, Some, None, refl, sym, ap, ◌∙◌, inl, inr, arith, ◌⊎◌}
use Rattle.std.specs.Prelude.{slice_get, find, map}
use Rattle.std.specs.Bool.{then_some}
use Rattle.std.specs.List.{filter_map, range_with_len}
use Rattle.std.proofs.lemmas.Bool.{cases_eq}
use Rattle.std.proofs.lemmas.Option.{none-some, same_Some}
use Rattle.cxl_enc.proofs.Options.{cases_Option}
use Rattle.cxl_legal.specs.Firsts.{first_there}

-- ---- the first that is there

pub past_none : {A : Type 0} (o : Option A) (rest : List (Option A)) → o ≡ None → first_there (o ∷ rest) ≡ first_there rest
past_none o rest none = rw none refl

pub at_some : {A : Type 0} (o : Option A) (rest : List (Option A)) (x : A) → o ≡ Some x → first_there (o ∷ rest) ≡ Some x
at_some o rest x some = rw some refl

pub all_none : {A : Type 0} (h : ℕ → Option A) (a k : ℕ) → ((n : ℕ) → a ≤ n → n < a + k → h n ≡ None) → first_there (map h (range_with_len a k)) ≡ None
all_none h a zero none = refl
all_none h a (suc k) none =
    past_none (h a) (map h (range_with_len (a + 1) k)) (none a (omega arith) (omega arith)) ∙ all_none h (a + 1) k (λ n from below. none n (omega arith) (omega arith))

pub first_of_nodes : {A : Type 0} (h : ℕ → Option A) (a k m : ℕ) (x : A) → a ≤ m → m < a + k → h m ≡ Some x → ((n : ℕ) → a ≤ n → n < m → h n ≡ None) → first_there (map h (range_with_len a k)) ≡ Some x
first_of_nodes h a zero m x from below here before = absurd (omega arith)
first_of_nodes h a (suc k) m x from below here before =
    elim (cases_eq a m) [
      | inl same ↦ at_some (h a) (map h (range_with_len (a + 1) k)) x (ap h same ∙ here)
      | inr other ↦
          past_none (h a) (map h (range_with_len (a + 1) k)) (before a (omega arith) (omega arith))
          ∙ first_of_nodes h (a + 1) k m x (omega arith) (omega arith) here (λ n past low. before n (omega arith) (omega arith))
    ]

-- where some number has an answer, some first one has
pub record IsFirstOf {A : Type 0} (h : ℕ → Option A) (a k : ℕ) : Type 0 where
  pub m : ℕ
  pub x : A
  pub from : a ≤ m
  pub below : m < a + k
  pub here : h m ≡ Some x
  pub before : (n : ℕ) → a ≤ n → n < m → h n ≡ None

pub first_or_none : {A : Type 0} (h : ℕ → Option A) (a k : ℕ) → ((n : ℕ) → a ≤ n → n < a + k → h n ≡ None) ⊎ IsFirstOf h a k
first_or_none h a zero = inl (λ n from below. absurd (omega arith))
first_or_none h a (suc k) =
    elim (cases_Option (h a)) [
      | inr some ↦ inr record { m = a; x = some.0; from = omega arith; below = omega arith; here = some.1; before = λ n from low. absurd (omega arith) }
      | inl none ↦ elim (first_or_none h (a + 1) k) [
        | inl all ↦ inl (λ n from below. elim (cases_eq a n) [ inl same ↦ ap h (sym same) ∙ none | inr other ↦ all n (omega arith) (omega arith) ])
        | inr first ↦
            let low = first.from in
            let high = first.below in
            inr record {
              m = first.m;
              x = first.x;
              from = omega arith;
              below = omega arith;
              here = first.here;
              before = λ n from less. elim (cases_eq a n) [ inl same ↦ ap h (sym same) ∙ none | inr other ↦ first.before n (omega arith) less ];
            }
      ]
    ]

-- ---- tests

pub some_then : {A : Type 0} (b : Bool) (x : A) → b ≡ true → then_some b x ≡ Some x
some_then b x holds = rw holds refl

pub none_then : {A : Type 0} (b : Bool) (x : A) → b ≡ false → then_some b x ≡ None
none_then b x fails = rw fails refl

-- ---- lists

module _ {X : Type 0} (p : X → Bool) where
  pub find_at : (xs : List X) (i : ℕ) (x : X) → slice_get xs i ≡ Some x → p x ≡ true → ((j : ℕ) (y : X) → j < i → slice_get xs j ≡ Some y → p y ≡ false) → find p xs ≡ Some x
  find_at [] i x there passes before = absurd (none-some x there)
  find_at (y ∷ ys) zero x there passes before =
      let same : y ≡ x = same_Some y x there in
      let here : p y ≡ true = ap p same ∙ passes in
      rw here there
  find_at (y ∷ ys) (suc i) x there passes before =
      let fails : p y ≡ false = before 0 y (omega arith) refl in
      rw fails (find_at ys i x there passes (λ j z less at. before (suc j) z (omega arith) at))

  pub find_nothing : (xs : List X) → ((j : ℕ) (y : X) → slice_get xs j ≡ Some y → p y ≡ false) → find p xs ≡ None
  find_nothing [] none = refl
  find_nothing (y ∷ ys) none =
      let fails : p y ≡ false = none 0 y refl in
      rw fails (find_nothing ys (λ j z at. none (suc j) z at))

-- a list that has the answer of each item
pub answers_of : {X Y : Type 0} (h : X → Option Y) (xs : List X) (ys : List Y) → length ys ≡ length xs → ((i : ℕ) (x : X) (y : Y) → slice_get xs i ≡ Some x → slice_get ys i ≡ Some y → h x ≡ Some y) → filter_map h xs ≡ ys
answers_of h [] [] long each = refl
answers_of h [] (y ∷ ys) long each = absurd (omega arith)
answers_of h (x ∷ xs) [] long each = absurd (omega arith)
answers_of {Y = Y} h (x ∷ xs) (y ∷ ys) long each =
    let here : h x ≡ Some y = each 0 x y refl refl in
    rw here (ap (λ (zs : List Y). y ∷ zs) (answers_of h xs ys (omega arith) (λ i z w at there. each (suc i) z w at there)))

pub number_at : (a k i : ℕ) → i < k → slice_get (range_with_len a k) i ≡ Some (a + i)
number_at a zero i below = absurd (omega arith)
number_at a (suc k) zero below = ap Some (omega arith)
number_at a (suc k) (suc i) below = number_at (a + 1) k i (omega arith) ∙ ap Some (omega arith)
