-- First places, and tests that go over a list from a place on.
use Rattle.std.proofs.Common.{◌≡◌, ℕ, suc, ◌+◌, ◌-◌, ◌<◌, ◌≤◌, Bool, true, false, List, [], ◌∷◌, length, get_or, map, take, Option, Some, None, refl, sym, ap, ◌∙◌, inl, inr, arith}
use Rattle.std.specs.Prelude.{slice_get, position, find, is_some}
use Rattle.std.specs.Option.{option_and_then, option_map_or}
use Rattle.std.specs.List.{list_any, list_all, range_with_len, position_or_len}
use Rattle.std.proofs.lemmas.Bool.{cases_Bool, cases_lt, lt-ltb, le-ltb, false≢true}
use Rattle.std.proofs.lemmas.List.Sums.{position_or_len_is, passes_at_first, fails_before_first}
use Rattle.std.proofs.lemmas.List.Folds.{find_at, list_any_at, list_any_none, list_all_more}
use Rattle.std.proofs.lemmas.List.Quantifiers.{position-Some}
use Rattle.std.proofs.lemmas.Option.{none-some, same_Some, slice_get_within, slice_get_past, slice_get-get_or, get_or_from_slice_get}

module _ {X : Type 0} (p : X → Bool) where
  at_place : (xs : List X) (i : ℕ) → position_or_len p xs ≡ i → i < length xs → position p xs ≡ Some i
  at_place xs i is lt = rw (is, lt-ltb i (length xs) lt) refl

  -- the first item that passes
  pub position_is : (xs : List X) (i : ℕ) (x : X) → slice_get xs i ≡ Some x → p x ≡ true → ((k : ℕ) (y : X) → k < i → slice_get xs k ≡ Some y → p y ≡ false) → position p xs ≡ Some i
  position_is xs i x here passes before =
      let lt = slice_get_within xs i x here in
      at_place xs i
      (position_or_len_is p xs i x (omega arith)
      (λ k below. before k (get_or xs k x) below (slice_get-get_or xs k x (omega arith)))
      (λ within. ap p (get_or_from_slice_get xs i x x here) ∙ passes))
      lt

  -- a search stops at the place of the first item that passes, and past the end where none does
  pub find_here : (xs : List X) (i : ℕ) (x : X) → slice_get xs i ≡ Some x → p x ≡ true → ((k : ℕ) (y : X) → k < i → slice_get xs k ≡ Some y → p y ≡ false) → slice_get xs i ≡ find p xs
  find_here xs i x here passes before =
      let lt = slice_get_within xs i x here in
      sym
      (find_at p xs
      ∙ ap (slice_get xs)
      (position_or_len_is p xs i x (omega arith)
      (λ k below. before k (get_or xs k x) below (slice_get-get_or xs k x (omega arith)))
      (λ within. ap p (get_or_from_slice_get xs i x x here) ∙ passes)))

  pub find_nowhere : (xs : List X) → ((k : ℕ) (y : X) → slice_get xs k ≡ Some y → p y ≡ false) → slice_get xs (length xs) ≡ find p xs
  find_nowhere [] none = refl
  find_nowhere (x ∷ xs) none =
      sym
      (find_at p (x ∷ xs)
      ∙ ap (slice_get (x ∷ xs))
      (position_or_len_is p (x ∷ xs) (length (x ∷ xs)) x (omega arith) (λ k below. none k (get_or (x ∷ xs) k x) (slice_get-get_or (x ∷ xs) k x below)) (λ past. absurd (omega arith))))

  pub position_none : (xs : List X) → ((k : ℕ) (y : X) → slice_get xs k ≡ Some y → p y ≡ false) → position p xs ≡ None
  position_none [] none = refl
  position_none (x ∷ xs) none =
      let is = position_or_len_is p (x ∷ xs) (length (x ∷ xs)) x (omega arith) (λ k below. none k (get_or (x ∷ xs) k x) (slice_get-get_or (x ∷ xs) k x below)) (λ past. absurd (omega arith)) in
      rw (is, le-ltb (length (x ∷ xs)) (length (x ∷ xs)) (omega arith)) refl

  pub find_by_position : (xs : List X) → find p xs ≡ option_and_then (slice_get xs) (position p xs)
  find_by_position xs =
      find_at p xs ∙ elim (cases_lt (position_or_len p xs) (length xs)) [
        | inl lt ↦ rw (lt-ltb (position_or_len p xs) (length xs) lt) refl
        | inr ge ↦ rw (le-ltb (position_or_len p xs) (length xs) ge) (slice_get_past xs (position_or_len p xs) ge)
      ]

  pub list_any_by_position : (xs : List X) → list_any p xs ≡ is_some (position p xs)
  list_any_by_position [] = refl
  list_any_by_position (x ∷ xs) =
      elim (cases_lt (position_or_len p (x ∷ xs)) (length (x ∷ xs))) [
        | inl lt ↦ rw (lt-ltb (position_or_len p (x ∷ xs)) (length (x ∷ xs)) lt) (list_any_at p (x ∷ xs) (position_or_len p (x ∷ xs)) x lt (passes_at_first p (x ∷ xs) x lt))
        | inr ge ↦ rw (le-ltb (position_or_len p (x ∷ xs)) (length (x ∷ xs)) ge) (list_any_none p (x ∷ xs) (λ k d below. fails_before_first p (x ∷ xs) k d (omega arith)))
      ]

  -- the item that passes, where no other does
  pub position_once : (xs : List X) (i : ℕ) (x : X) → slice_get xs i ≡ Some x → p x ≡ true → ((j : ℕ) (y : X) → slice_get xs j ≡ Some y → p y ≡ true → j ≡ i) → position p xs ≡ Some i
  position_once xs i x here passes only =
      position_is xs i x here passes (λ k y below there.
      elim (cases_Bool (p y)) [
        | inl also ↦ let same = only k y there also in absurd (omega arith)
        | inr fails ↦ fails
      ])

  -- the item at a place passes, which is there
  pub passes_there : (xs : List X) (i : ℕ) → option_map_or p (slice_get xs i) false ≡ true → (x : X) × (slice_get xs i ≡ Some x) × (p x ≡ true)
  passes_there xs i passes = go (slice_get xs i) refl passes
    where
      go : (o : Option X) → slice_get xs i ≡ o → option_map_or p o false ≡ true → (x : X) × (slice_get xs i ≡ Some x) × (p x ≡ true)
      go None e h = absurd (false≢true h)
      go (Some x) e h = (x, e, h)

  -- an item passes, or none does
  pub list_any_one : (xs : List X) (i : ℕ) (x : X) → slice_get xs i ≡ Some x → p x ≡ true → list_any p xs ≡ true
  list_any_one xs i x here passes = list_any_at p xs i x (slice_get_within xs i x here) (ap p (get_or_from_slice_get xs i x x here) ∙ passes)

  pub list_any_no : (xs : List X) → ((k : ℕ) (y : X) → slice_get xs k ≡ Some y → p y ≡ false) → list_any p xs ≡ false
  list_any_no xs none = list_any_none p xs (λ k d below. none k (get_or xs k d) (slice_get-get_or xs k d below))

  -- all items up to the next place pass
  pub all_more : (xs : List X) (i : ℕ) (d : X) → i < length xs → list_all p (take i xs) ≡ true → p (get_or xs i d) ≡ true → list_all p (take (i + 1) xs) ≡ true
  all_more xs i d below before here = list_all_more p xs i d below ∙ rw (before, here) refl

  -- none below the next place
  pub none_more : (xs : List X) (i : ℕ) (x : X) → slice_get xs i ≡ Some x → p x ≡ false → ((k : ℕ) (y : X) → k < i → slice_get xs k ≡ Some y → p y ≡ false)
      → (k : ℕ) (y : X) → k < i + 1 → slice_get xs k ≡ Some y → p y ≡ false
  none_more xs i x here fails before k y below is =
      elim (cases_lt k i) [
        | inl earlier ↦ before k y earlier is
        | inr at ↦
            let same : k ≡ i = omega arith in
            let one : x ≡ y = same_Some x y (sym here ∙ ap (slice_get xs) (sym same) ∙ is) in
            ap p (sym one) ∙ fails
      ]

-- ---- numbers in a row

module _ {X : Type 0} (f : ℕ → X) where
  pub from_here : (i n : ℕ) → i < n → map f (range_with_len i (n - i)) ≡ f i ∷ map f (range_with_len (i + 1) (n - (i + 1)))
  from_here i n lt = let e : n - i ≡ suc (n - (i + 1)) = omega arith in rw e refl

  pub from_end : (i n : ℕ) → n ≤ i → map f (range_with_len i (n - i)) ≡ []
  from_end i n past = let e : n - i ≡ 0 = omega arith in rw e refl

  module _ (p : X → Bool) where
    pub any_here : (i n : ℕ) → i < n → p (f i) ≡ true → list_any p (map f (range_with_len i (n - i))) ≡ true
    any_here i n lt passes = ap (list_any p) (from_here i n lt) ∙ rw passes refl

    pub any_later : (i n : ℕ) → i < n → p (f i) ≡ false → list_any p (map f (range_with_len i (n - i))) ≡ list_any p (map f (range_with_len (i + 1) (n - (i + 1))))
    any_later i n lt fails = ap (list_any p) (from_here i n lt) ∙ rw fails refl

    pub any_end : (i n : ℕ) → n ≤ i → list_any p (map f (range_with_len i (n - i))) ≡ false
    any_end i n past = ap (list_any p) (from_end i n past)

    pub all_fails : (i n : ℕ) → i < n → p (f i) ≡ false → list_all p (map f (range_with_len i (n - i))) ≡ false
    all_fails i n lt fails = ap (list_all p) (from_here i n lt) ∙ rw fails refl

    pub all_later : (i n : ℕ) → i < n → p (f i) ≡ true → list_all p (map f (range_with_len i (n - i))) ≡ list_all p (map f (range_with_len (i + 1) (n - (i + 1))))
    all_later i n lt passes = ap (list_all p) (from_here i n lt) ∙ rw passes refl

    pub all_end : (i n : ℕ) → n ≤ i → list_all p (map f (range_with_len i (n - i))) ≡ true
    all_end i n past = ap (list_all p) (from_end i n past)

-- the item at a first place passes
pub passes_at : {X : Type 0} (p : X → Bool) (xs : List X) (i : ℕ) → position p xs ≡ Some i → (x : X) × (slice_get xs i ≡ Some x) × (p x ≡ true)
passes_at p [] i is = absurd (none-some i is)
passes_at p (x ∷ xs) i is =
    let at = position-Some p (x ∷ xs) i x is in
    (get_or (x ∷ xs) i x, slice_get-get_or (x ∷ xs) i x at.0, at.1)
