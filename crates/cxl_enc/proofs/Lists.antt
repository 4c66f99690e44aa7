-- Elements of a list: which are there, which pass a test, and a list with one of them set.
use Rattle.std.proofs.Common.{◌≡◌, ℕ, zero, suc, ◌<◌, List, Option, [], ◌∷◌, length, Some, refl, arith, subst, get_or, inl, inr, ◌⊎◌, ◌++◌, ◌≤◌, drop, ◌≢◌, ap, Bool, true, false, cond, sym, ◌∙◌, None, ◌||◌, reverse, ◌&&◌, replicate, append_assoc}
use Rattle.std.specs.Prelude.{slice_get, All, Contains, slice_set, find, position, nat_lt, filter, ◌==◌}
use Rattle.std.proofs.lemmas.Option.{slice_get_within, get_or_from_slice_get, same_Some, none-some, slice_get-get_or}
use Rattle.std.proofs.lemmas.List.Elements.{All-get_or}
use Rattle.std.specs.List.{list_any, position_or_len}
use Rattle.std.proofs.lemmas.Bool.{cases_lt, lt-ltb, cond-true, false≢true, cases_Bool, or_left, or_right, or_parts, eq-eqb, eqb-true}
use Rattle.std.proofs.lemmas.List.Folds.{Any-from_list_any, find_at, list_any-append, list_any_at}
use Rattle.std.proofs.lemmas.List.Quantifiers.{position-Some}
use Rattle.std.proofs.lemmas.List.Sums.{fails_before_first, passes_at_first}
use Rattle.std.proofs.lemmas.List.{reverse-append}

-- ---- elements

pub item : {X : Type 0} (xs : List X) (i : ℕ) → i < length xs → (x : X) × (slice_get xs i ≡ Some x)
item [] i lt = absurd (omega arith)
item (x ∷ xs) zero lt = (x, refl)
item (x ∷ xs) (suc i) lt = item xs i (omega arith)

pub All-at : {X : Type 0} (P : X → Type 0) (xs : List X) (i : ℕ) (x : X) → slice_get xs i ≡ Some x → All P xs → P x
All-at P xs i x at each = subst P (get_or_from_slice_get xs i x x at) (All-get_or P xs i x (slice_get_within xs i x at) each)

pub All-one : {X : Type 0} (P : X → Type 0) (x : X) → P x → All P (x ∷ [])
All-one P x holds zero d within = holds
All-one P x holds (suc i) d within = absurd (omega arith)

pub contains_at : {X : Type 0} (xs : List X) (k : ℕ) (x : X) → slice_get xs k ≡ Some x → Contains xs x
contains_at xs k x there = (k, slice_get_within xs k x there, get_or_from_slice_get xs k x x there)

pub contains_head : {X : Type 0} (x : X) (xs : List X) → Contains (x ∷ xs) x
contains_head x xs = (0, omega arith, refl)

pub contains_tail : {X : Type 0} (x y : X) (xs : List X) → Contains xs y → Contains (x ∷ xs) y
contains_tail x y xs there = let within = there.1 in (suc there.0, omega arith, there.2)

pub contains_none : {X : Type 0} (y : X) → Contains {X = X} [] y → ⊥
contains_none y there = let within = there.1 in omega arith

pub contains_cases : {X : Type 0} (x y : X) (xs : List X) → Contains (x ∷ xs) y → (x ≡ y) ⊎ Contains xs y
contains_cases {X} x y xs there = go there.0 there.1 there.2
  where
    go : (k : ℕ) → k < length (x ∷ xs) → get_or (x ∷ xs) k y ≡ y → (x ≡ y) ⊎ Contains xs y
    go zero within is = inl is
    go (suc k) within is = inr (k, omega arith, is)

pub first-append : {X : Type 0} (xs ys : List X) → 0 < length xs → slice_get (xs ++ ys) 0 ≡ slice_get xs 0
first-append [] ys some = absurd (omega arith)
first-append (x ∷ xs) ys some = refl

pub get_last : {X : Type 0} (xs : List X) (x : X) → slice_get (xs ++ x ∷ []) (length xs) ≡ Some x
get_last [] x = refl
get_last (y ∷ xs) x = get_last xs x

pub drop_all : {X : Type 0} (xs : List X) (i : ℕ) → length xs ≤ i → drop i xs ≡ []
drop_all [] zero past = refl
drop_all [] (suc i) past = refl
drop_all (x ∷ xs) zero past = absurd (omega arith)
drop_all (x ∷ xs) (suc i) past = drop_all xs i (omega arith)

-- lists with the same element at each place are one
pub same_by_get : {X : Type 0} (xs ys : List X) → ((k : ℕ) → slice_get xs k ≡ slice_get ys k) → xs ≡ ys
same_by_get [] [] same = refl
same_by_get [] (y ∷ ys) same = absurd (none-some y (same zero))
same_by_get (x ∷ xs) [] same = absurd (none-some x (sym (same zero)))
same_by_get (x ∷ xs) (y ∷ ys) same =
    let first : x ≡ y = same_Some x y (same zero) in
    let rest : xs ≡ ys = same_by_get xs ys (λ k. same (suc k)) in
    λ i. first i ∷ rest i

-- a part behind another
pub appended : (old middle new front part : List ℕ) → middle ≡ old ++ front → new ≡ middle ++ part → new ≡ old ++ (front ++ part)
appended old middle new front part first second = second ∙ ap (λ (t : List ℕ). t ++ part) first ∙ append_assoc old front part

-- each of some zeros is 0
pub zeros_at : (n i : ℕ) → ◌≡◌ {A = ℕ} (get_or (replicate n 0) i 0) 0
zeros_at zero zero = refl
zeros_at zero (suc i) = refl
zeros_at (suc n) zero = refl
zeros_at (suc n) (suc i) = zeros_at n i

-- ---- an element set

pub get_same : {X : Type 0} (xs : List X) (i : ℕ) (x : X) → i < length xs → slice_get (slice_set xs i x) i ≡ Some x
get_same [] i x h = absurd (omega arith)
get_same (y ∷ xs) zero x h = refl
get_same (y ∷ xs) (suc i) x h = get_same xs i x (omega arith)

pub get_other : {X : Type 0} (xs : List X) (i k : ℕ) (x : X) → k ≢ i → slice_get (slice_set xs i x) k ≡ slice_get xs k
get_other [] i k x h = refl
get_other (y ∷ xs) zero zero x h = absurd (h refl)
get_other (y ∷ xs) zero (suc k) x h = refl
get_other (y ∷ xs) (suc i) zero x h = refl
get_other (y ∷ xs) (suc i) (suc k) x h = get_other xs i k x (λ e. h (ap suc e))

-- ---- elements that pass a test

find_step : {X : Type 0} (p : X → Bool) (y : X) (ys : List X) (x : X) (b : Bool) → p y ≡ b → (find p ys ≡ Some x → p x ≡ true) → cond b (Some y) (find p ys) ≡ Some x → p x ≡ true
find_step p y ys x true at rest is = ap p (sym (same_Some y x is)) ∙ at
find_step p y ys x false at rest is = rest is

pub find_passes : {X : Type 0} (p : X → Bool) (xs : List X) (x : X) → find p xs ≡ Some x → p x ≡ true
find_passes p [] x is = absurd (none-some x is)
find_passes p (y ∷ ys) x is = find_step p y ys x (p y) refl (find_passes p ys x) is

pub record FirstOf {X : Type 0} (p : X → Bool) (xs : List X) : Type 0 where
  pub i : ℕ
  pub x : X
  pub at : slice_get xs i ≡ Some x
  pub passes : p x ≡ true
  pub found : find p xs ≡ Some x
  pub place : position p xs ≡ Some i

pub first_of : {X : Type 0} (d : X) (p : X → Bool) (xs : List X) → list_any p xs ≡ true → FirstOf p xs
first_of d p xs any =
    let i : ℕ = position_or_len p xs in
    let some = Any-from_list_any p xs any in
    let within : i < length xs = elim (cases_lt i (length xs)) [
      | inl below ↦ below
      | inr past ↦
          let k : ℕ = some.0 in
          let x = some.1 in
          let inside = some.2 in
          absurd (false≢true (sym (fails_before_first p xs k x (omega arith)) ∙ ap p some.3 ∙ some.4))
    ] in
    record {
      i = i;
      x = get_or xs i d;
      at = slice_get-get_or xs i d within;
      passes = passes_at_first p xs d within;
      found = find_at p xs ∙ slice_get-get_or xs i d within;
      place = cond-true (nat_lt i (length xs)) (Some i) None (lt-ltb i (length xs) within);
    }

pub some_passes : {X : Type 0} (p : X → Bool) (xs : List X) → list_any p xs ≡ true → (k : ℕ) × (x : X) × (slice_get xs k ≡ Some x) × (p x ≡ true)
some_passes p [] is = absurd (false≢true is)
some_passes p (x ∷ xs) is =
    elim (cases_Bool (p x)) [
      | inl passes ↦ (zero, x, refl, passes)
      | inr fails ↦
          let rest = some_passes p xs (sym (ap (λ (b : Bool). b || list_any p xs) fails) ∙ is) in
          (suc rest.0, rest.1, rest.2, rest.3)
    ]

pub position_none : {X : Type 0} (d : X) (p : X → Bool) (xs : List X) → list_any p xs ≡ false → position p xs ≡ None
position_none d p xs none = go (position p xs) refl
  where
    go : (o : Option ℕ) → position p xs ≡ o → o ≡ None
    go None is = refl
    go (Some i) is =
        let at = position-Some p xs i d is in
        absurd (false≢true (sym none ∙ list_any_at p xs i d at.0 at.1))

pub list_any-reverse : {X : Type 0} (p : X → Bool) (xs : List X) → list_any p (reverse xs) ≡ list_any p xs
list_any-reverse p [] = refl
list_any-reverse p (x ∷ xs) =
    ap (list_any p) (reverse-append (x ∷ []) xs) ∙ list_any-append p (reverse xs) (x ∷ []) ∙ ap (λ b. b || (p x || false)) (list_any-reverse p xs) ∙ turned (p x) (list_any p xs)
  where
    turned : (a b : Bool) → (b || (a || false)) ≡ (a || b)
    turned true true = refl
    turned true false = refl
    turned false true = refl
    turned false false = refl

weaker_step : (a b c d : Bool) → (a ≡ true → b ≡ true) → (c ≡ true → d ≡ true) → (a || c) ≡ true → (b || d) ≡ true
weaker_step true b c d now later any = or_left b d (now refl)
weaker_step false b c d now later any = or_right b d (later any)

pub list_any-weaker : {X : Type 0} (p q : X → Bool) → ((x : X) → p x ≡ true → q x ≡ true) → (xs : List X) → list_any p xs ≡ true → list_any q xs ≡ true
list_any-weaker p q weaker [] any = any
list_any-weaker p q weaker (x ∷ xs) any = weaker_step (p x) (q x) (list_any p xs) (list_any q xs) (weaker x) (list_any-weaker p q weaker xs) any

kept_twice : {X : Type 0} (p q : X → Bool) (b : Bool) (x : X) (ys : List X) → filter q (cond b (x ∷ ys) ys) ≡ cond (b && q x) (x ∷ filter q ys) (filter q ys)
kept_twice p q true x ys = refl
kept_twice p q false x ys = refl

pub filter-filter : {X : Type 0} (p q : X → Bool) (xs : List X) → filter q (filter p xs) ≡ filter (λ x. p x && q x) xs
filter-filter p q [] = refl
filter-filter p q (x ∷ xs) =
    kept_twice p q (p x) x (filter p xs) ∙ ap (λ ys. cond (p x && q x) (x ∷ ys) ys) (filter-filter p q xs)

pub none_filtered : {X : Type 0} (p : X → Bool) (xs : List X) → list_any p xs ≡ false → length (filter p xs) ≡ 0
none_filtered p [] none = refl
none_filtered p (x ∷ xs) none =
    let parts = or_parts (p x) (list_any p xs) none in
    ap (λ b. length (cond b (x ∷ filter p xs) (filter p xs))) parts.0 ∙ none_filtered p xs parts.1

some_step : {X : Type 0} (b any : Bool) (x : X) (ys : List X) → (any ≡ true → 0 < length ys) → (b || any) ≡ true → 0 < length (cond b (x ∷ ys) ys)
some_step true any x ys rest is = omega arith
some_step false any x ys rest is = rest is

pub some_filtered : {X : Type 0} (p : X → Bool) (xs : List X) → list_any p xs ≡ true → 0 < length (filter p xs)
some_filtered p [] any = absurd (false≢true any)
some_filtered p (x ∷ xs) any = some_step (p x) (list_any p xs) x (filter p xs) (some_filtered p xs) any

-- no more pass than there are
pub few_filtered : {X : Type 0} (p : X → Bool) (xs : List X) → length (filter p xs) ≤ length xs
few_filtered p [] = omega arith
few_filtered p (x ∷ xs) = go (few_filtered p xs) (p x)
  where
    go : length (filter p xs) ≤ length xs → (b : Bool) → length (cond b (x ∷ filter p xs) (filter p xs)) ≤ length (x ∷ xs)
    go rest false = omega (arith, rest)
    go rest true = omega (arith, rest)

-- ---- numbers in a list

-- the number is in the list
abbrev pub is_in : ℕ → List ℕ → Bool
is_in n ns = list_any (λ m. m == n) ns

pub in_from : (ns : List ℕ) (n : ℕ) → Contains ns n → is_in n ns ≡ true
in_from ns n there = list_any_at (λ m. m == n) ns there.0 n there.1 (eq-eqb (get_or ns there.0 n) n there.2)

pub in_is : (ns : List ℕ) (n : ℕ) → is_in n ns ≡ true → Contains ns n
in_is ns n any =
    let some = Any-from_list_any (λ m. m == n) ns any in
    let at : get_or ns some.0 some.1 ≡ n = some.3 ∙ eqb-true some.1 n some.4 in
    (some.0, some.2, other ns some.0 some.1 n some.2 at)
  where
    other : (xs : List ℕ) (k d e : ℕ) → k < length xs → get_or xs k d ≡ e → get_or xs k e ≡ e
    other [] k d e within is = absurd (omega arith)
    other (x ∷ xs) zero d e within is = is
    other (x ∷ xs) (suc k) d e within is = other xs k d e (omega arith) is

pub not_among : (before : List ℕ) (u : ℕ) → list_any (λ v. v == u) before ≡ false → (k d : ℕ) → k < length before → get_or before k d ≢ u
not_among before u none k d inside same = false≢true (sym none ∙ list_any_at (λ v. v == u) before k d inside (eq-eqb (get_or before k d) u same))
