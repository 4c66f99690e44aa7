-- Numbers that pass a test in rising order, and one more put among them.
use Rattle.std.proofs.Common.{◌≡◌, ℕ, zero, suc, ◌+◌, ◌<◌, ◌≤◌, Bool, true, false, ◌||◌, List, [], ◌∷◌, length, get_or, filter, refl, sym, ap, subst, ◌∙◌, inl, inr, arith}
use Rattle.std.specs.Prelude.{◌==◌, insert, ⊤, Result, IsOk, MatchResult, Ok, Err}
use Rattle.std.specs.List.{range_with_len, All}
use Rattle.std.specs.List.Sorted.{IsBinarySearchResult}
use Rattle.std.specs.Ordering.{nat_cmp}
use Rattle.std.proofs.lemmas.Bool.{cases_Bool, cases_eq, cases_lt, eq-eqb, ne_eqb, false≢true}
use Rattle.std.proofs.lemmas.List.Elements.{filter_passes}
use Rattle.std.proofs.lemmas.List.Sorted.{searched}
use Rattle.cxl_plan.proofs.Tables.{filter_same}
use Rattle.cxl_plan.proofs.UsedItems.{StandsAt, stands}

-- the first is no less than a, and each is less than the next
abbrev RisesFrom : ℕ → List ℕ → Type 0
RisesFrom a [] = ⊤
RisesFrom a (x ∷ xs) = (a ≤ x) × RisesFrom (x + 1) xs

lower : (a b : ℕ) (xs : List ℕ) → a ≤ b → RisesFrom b xs → RisesFrom a xs
lower a b [] le rises = tt
lower a b (x ∷ xs) le rises = (omega (arith, rises.0), rises.1)

passing_rises : (p : ℕ → Bool) (a n : ℕ) → RisesFrom a (filter p (range_with_len a n))
passing_rises p a zero = tt
passing_rises p a (suc n) =
    let rest = passing_rises p (a + 1) n in
    elim (cases_Bool (p a)) [
      | inl passes ↦ rw passes (omega arith, rest)
      | inr fails ↦ rw fails (lower a (a + 1) (filter p (range_with_len (a + 1) n)) (omega arith) rest)
    ]

each_from : (a : ℕ) (xs : List ℕ) → RisesFrom a xs → (k : ℕ) → k < length xs → a ≤ get_or xs k 0
each_from a [] rises k below = absurd (omega arith)
each_from a (x ∷ xs) rises zero below = rises.0
each_from a (x ∷ xs) rises (suc k) below = let later = each_from (x + 1) xs rises.1 k (omega arith) in omega (arith, rises.0, later)

strictly : (a : ℕ) (xs : List ℕ) → RisesFrom a xs → (i j : ℕ) → i < j → j < length xs → get_or xs i 0 < get_or xs j 0
strictly a [] rises i j less below = absurd (omega arith)
strictly a (x ∷ xs) rises i zero less below = absurd (omega arith)
strictly a (x ∷ xs) rises zero (suc j) less below = let later = each_from (x + 1) xs rises.1 j (omega arith) in omega (arith, later)
strictly a (x ∷ xs) rises (suc i) (suc j) less below = strictly (x + 1) xs rises.1 i j (omega arith) (omega arith)

-- ---- a number more

-- a place between the lesser and the greater numbers
pub record IsGap (xs : List ℕ) (i x : ℕ) : Type 0 where
  pub low : i ≤ length xs
  pub before : (k : ℕ) → k < i → get_or xs k 0 < x
  pub after : (k : ℕ) → i ≤ k → k < length xs → x < get_or xs k 0

not_there : (a x : ℕ) (xs : List ℕ) (i : ℕ) → a ≡ x → IsGap (a ∷ xs) i x → ⊥
not_there a x xs zero same gap = let past = gap.after 0 (omega arith) (omega arith) in omega (arith, past, same)
not_there a x xs (suc i) same gap = let low = gap.before 0 (omega arith) in omega (arith, low, same)

in_front : (x : ℕ) (xs : List ℕ) (i : ℕ) → RisesFrom (x + 1) xs → IsGap xs i x → insert xs i x ≡ x ∷ xs
in_front x xs zero rises gap = refl
in_front x [] (suc i) rises gap = absurd (omega (arith, gap.low))
in_front x (y ∷ ys) (suc i) rises gap = let low = gap.before 0 (omega arith) in absurd (omega (arith, rises.0, low))

further : (a x : ℕ) (xs wanted : List ℕ) (i : ℕ) → a ≤ x → IsGap (a ∷ xs) i x → ((j : ℕ) → IsGap xs j x → insert xs j x ≡ wanted) → insert (a ∷ xs) i x ≡ a ∷ wanted
further a x xs wanted zero from gap rest = let past = gap.after 0 (omega arith) (omega arith) in absurd (omega (arith, past, from))
further a x xs wanted (suc i) from gap rest = ap (λ (ys : List ℕ). a ∷ ys) (rest i (record { low = omega (arith, gap.low); before = λ k less. gap.before (suc k) (omega arith); after = λ k past below. gap.after (suc k) (omega arith) (omega arith) }))

pub inserted : (p : ℕ → Bool) (x a n i : ℕ) → a ≤ x → x < a + n → IsGap (filter p (range_with_len a n)) i x
    → insert (filter p (range_with_len a n)) i x ≡ filter (λ q. (x == q) || p q) (range_with_len a n)
inserted p x a zero i from below gap = absurd (omega arith)
inserted p x a (suc n) i from below gap =
    elim (cases_eq a x) [
      | inl same ↦
          let here : (x == a) ≡ true = eq-eqb x a (sym same) in
          elim (cases_Bool (p a)) [
            | inl passes ↦ absurd (not_there a x rest i same (rw passes at gap))
            | inr fails ↦
                let at : IsGap rest i x = rw fails at gap in
                rw (fails, here)
                (in_front x rest i (subst (λ (m : ℕ). RisesFrom (m + 1) rest) same (passing_rises p (a + 1) n)) at
                ∙ ap (λ (m : ℕ). m ∷ rest) (sym same)
                ∙ ap (λ (ys : List ℕ). a ∷ ys) (filter_same p (λ q. (x == q) || p q) (a + 1) n (λ k past low. sym (ap (λ (b : Bool). b || p k) (ne_eqb x k (λ is. omega (arith, same, is)))))))
          ]
      | inr other ↦
          let apart : (x == a) ≡ false = ne_eqb x a (λ is. other (sym is)) in
          elim (cases_Bool (p a)) [
            | inl passes ↦ rw (passes, apart) (further a x rest (filter (λ q. (x == q) || p q) (range_with_len (a + 1) n)) i from (rw passes at gap) (λ j gap'. inserted p x (a + 1) n j (omega arith) (omega arith) gap'))
            | inr fails ↦ rw (fails, apart) (inserted p x (a + 1) n i (omega arith) (omega arith) (rw fails at gap))
          ]
    ]
  where
    rest : List ℕ
    rest = filter p (range_with_len (a + 1) n)

-- ---- all numbers below a limit that pass

module _ (p : ℕ → Bool) (limit : ℕ) (xs : List ℕ) (is : xs ≡ filter p (range_with_len 0 limit)) where
  rises : RisesFrom 0 xs
  rises = subst (RisesFrom 0) (sym is) (passing_rises p 0 limit)

  pub strictly_up : (i j : ℕ) → i < j → j < length xs → get_or xs i 0 < get_or xs j 0
  strictly_up i j less below = strictly 0 xs rises i j less below

  pub up : (i j : ℕ) → i ≤ j → j < length xs → get_or xs i 0 ≤ get_or xs j 0
  up i j le below =
      elim (cases_eq i j) [
        | inl same ↦ let e = ap (λ (k : ℕ). get_or xs k 0) same in omega (arith, e)
        | inr other ↦ let less = strictly_up i j (omega arith) below in omega (arith, less)
      ]

  pub found_passes : (i x : ℕ) → i < length xs → get_or xs i 0 ≡ x → p x ≡ true
  found_passes i x below here = subst (λ (m : ℕ). p m ≡ true) here (subst (λ (ys : List ℕ). All (λ m. p m ≡ true) ys) (sym is) (filter_passes p (range_with_len 0 limit)) i 0 below)

  pub gap_fails : (i x : ℕ) → x < limit → IsGap xs i x → p x ≡ false
  gap_fails i x low gap =
      elim (cases_Bool (p x)) [
        | inl passes ↦
            let at : StandsAt xs x = subst (λ (ys : List ℕ). StandsAt ys x) (sym is) (stands p 0 limit x (omega arith) (omega arith) passes) in
            elim (cases_lt at.place i) [
              | inl before ↦ let less = gap.before at.place before in absurd (omega (arith, less, at.here))
              | inr past ↦ let more = gap.after at.place (omega arith) at.within in absurd (omega (arith, more, at.here))
            ]
        | inr fails ↦ fails
      ]

  pub put : (i x : ℕ) → x < limit → IsGap xs i x → insert xs i x ≡ filter (λ q. (x == q) || p q) (range_with_len 0 limit)
  put i x low gap = ap (λ (ys : List ℕ). insert ys i x) is ∙ inserted p x 0 limit i (omega arith) (omega arith) (subst (λ (ys : List ℕ). IsGap ys i x) is gap)

  pub kept : (x : ℕ) → p x ≡ true → xs ≡ filter (λ q. (x == q) || p q) (range_with_len 0 limit)
  kept x passes = is ∙ filter_same p (λ q. (x == q) || p q) 0 limit (λ k from below. same k)
    where
      same : (k : ℕ) → p k ≡ ((x == k) || p k)
      same k =
          elim (cases_eq x k) [
            | inl here ↦ rw (eq-eqb x k here) (ap p (sym here) ∙ passes)
            | inr other ↦ rw (ne_eqb x k other) refl
          ]

  -- what a binary search tells
  pub sought : (x : ℕ) (r : Result ℕ ℕ) → IsBinarySearchResult (λ y. nat_cmp y x) xs r → MatchResult r (λ i. (i < length xs) × (get_or xs i 0 ≡ x)) (λ i. IsGap xs i x)
  sought x r h = told r (searched xs x r h up)
    where
      told : (r : Result ℕ ℕ) → MatchResult r (λ i. (i < length xs) × (get_or xs i 0 ≡ x)) (λ i. (i ≤ length xs) × ((k : ℕ) → k < i → get_or xs k 0 < x) × ((k : ℕ) → i ≤ k → k < length xs → x < get_or xs k 0)) → MatchResult r (λ i. (i < length xs) × (get_or xs i 0 ≡ x)) (λ i. IsGap xs i x)
      told (Ok i) there = there
      told (Err i) gap = record { low = gap.0; before = gap.1; after = gap.2 }

  -- a number that passes is found
  pub sought_there : (x : ℕ) → x < limit → p x ≡ true → (r : Result ℕ ℕ) → IsBinarySearchResult (λ y. nat_cmp y x) xs r → IsOk r
  sought_there x low passes r h = told r (sought x r h)
    where
      told : (r : Result ℕ ℕ) → MatchResult r (λ i. (i < length xs) × (get_or xs i 0 ≡ x)) (λ i. IsGap xs i x) → IsOk r
      told (Ok i) there = refl
      told (Err i) gap = absurd (false≢true (sym (gap_fails i x low gap) ∙ passes))
