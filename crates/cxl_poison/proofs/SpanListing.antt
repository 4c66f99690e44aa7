-- Each device has a list of its live spans, in the order of its bytes.
use Rattle.std.proofs.Common.{◌≡◌, ℕ, zero, suc, ◌+◌, ◌≤◌, ◌⊎◌, List, [], ◌∷◌, ◌++◌, length, Some, refl, ap, subst, inl, inr, arith}
use Rattle.std.specs.Prelude.{slice_get, All}
use Rattle.std.specs.List.Sorted.{IsPermutation, IsNonDecreasingBy}
use Rattle.std.proofs.lemmas.Bool.{cases_lt, cases_eq}
use Rattle.std.proofs.lemmas.Option.{none-some, same_Some, slice_get_cases}
use Rattle.std.proofs.lemmas.List.Elements.{All-nil, All-cons, All-weaker}
use Rattle.std.proofs.lemmas.List.Sorted.{IsPermutation-refl, IsPermutation-cons, IsPermutation-swap, IsPermutation-trans, All-permutation}
use Rattle.cxl_model.specs.declared.found.Found.{Found}
use Rattle.cxl_model.specs.declared.found.Place.{Place}
use Rattle.cxl_model.specs.Bytes.{slot_length}
use Rattle.cxl_poison.specs.declared.live.LiveSpan.{LiveSpan}
use Rattle.cxl_poison.specs.Live.{AreLiveSpans}
use Rattle.cxl_poison.proofs.LiveLists.{OneSpan, SharesNoByte, AreSpansTo, none_yet, no_more, one_more, in_order}

-- ---- spans in order

abbrev Rises : List LiveSpan → Type 0
Rises spans = IsNonDecreasingBy (λ (span : LiveSpan). span.start) spans

abbrev StartsBy : LiveSpan → LiveSpan → Type 0
StartsBy x y = x.start ≤ y.start

front_rises : (x : LiveSpan) (xs : List LiveSpan) → All (StartsBy x) xs → Rises xs → Rises (x ∷ xs)
front_rises x xs first rises zero zero d order within = omega arith
front_rises x xs first rises zero (suc j) d order within = first j d (omega (arith, within))
front_rises x xs first rises (suc i) zero d order within = absurd (omega (arith, order))
front_rises x xs first rises (suc i) (suc j) d order within = rises i j d (omega (arith, order)) (omega (arith, within))

rest_rises : (x : LiveSpan) (xs : List LiveSpan) → Rises (x ∷ xs) → Rises xs
rest_rises x xs rises i j d order within = rises (suc i) (suc j) d (omega (arith, order)) (omega (arith, within))

front_first : (x : LiveSpan) (xs : List LiveSpan) → Rises (x ∷ xs) → All (StartsBy x) xs
front_first x xs rises k d within = rises zero (suc k) d (omega arith) (omega (arith, within))

-- the same spans in order
abbrev Ordered : List LiveSpan → Type 0
Ordered xs = (ys : List LiveSpan) × IsPermutation xs ys × Rises ys

put : (x : LiveSpan) (ys : List LiveSpan) → Rises ys → Ordered (x ∷ ys)
put x [] rises = (x ∷ [], IsPermutation-refl (x ∷ []), front_rises x [] (All-nil (StartsBy x)) rises)
put x (y ∷ ys) rises = elim (cases_lt y.start x.start) [
  | inl later ↦
      let rest = put x ys (rest_rises y ys rises) in
      let first : All (StartsBy y) rest.0 =
      All-permutation (StartsBy y) (x ∷ ys) rest.0 rest.1 (All-cons (StartsBy y) x ys (omega (arith, later)) (front_first y ys rises)) in
      let exchanged : IsPermutation (x ∷ y ∷ ys) (y ∷ x ∷ ys) = IsPermutation-swap (x ∷ y ∷ ys) (y ∷ x ∷ ys) 0 1 (omega arith) (omega arith) refl in (
        y ∷ rest.0,
        IsPermutation-trans (x ∷ y ∷ ys) (y ∷ x ∷ ys) (y ∷ rest.0) exchanged (IsPermutation-cons y (x ∷ ys) rest.0 rest.1),
        front_rises y rest.0 first rest.2,
      )
  | inr before ↦
      let first : All (StartsBy x) ys = All-weaker (StartsBy y) (StartsBy x) (λ z order. omega (arith, before, order)) ys (front_first y ys rises) in
      (x ∷ y ∷ ys, IsPermutation-refl (x ∷ y ∷ ys), front_rises x (y ∷ ys) (All-cons (StartsBy x) y ys before first) rises)
]

ordered : (xs : List LiveSpan) → Ordered xs
ordered [] = ([], IsPermutation-refl [], λ i j d order within. absurd (omega (arith, within)))
ordered (x ∷ xs) =
    let rest = ordered xs in
    let all = put x rest.0 rest.2 in
    (all.0, IsPermutation-trans (x ∷ xs) (x ∷ rest.0) all.0 (IsPermutation-cons x xs rest.0 rest.1) all.1, all.2)

-- ---- the span of one region

module _ (endpoint : ℕ) where
  abbrev place : ℕ → Place
  place start = record { endpoint = endpoint; start = start }

  abbrev Has : List Place → Type 0
  Has places = (slot : ℕ) × (start : ℕ) × (slice_get places slot ≡ Some (place start))

  abbrev HasNone : List Place → Type 0
  HasNone places = (slot start : ℕ) → slice_get places slot ≡ Some (place start) → ⊥

  none_with : (other : Place) (places : List Place) → (other.endpoint ≡ endpoint → ⊥) → HasNone places → HasNone (other ∷ places)
  none_with other places apart none zero start is = apart (ap (λ (p : Place). p.endpoint) (same_Some other (place start) is))
  none_with other places apart none (suc slot) start is = none slot start is

  has_or_none : (places : List Place) → Has places ⊎ HasNone places
  has_or_none [] = inr (λ slot start is. none-some (place start) is)
  has_or_none (first ∷ places) = elim (cases_eq first.endpoint endpoint) [
    | inl here ↦ inl (zero, first.start, ap (λ (n : ℕ). Some (record { endpoint = n; start = first.start })) here)
    | inr other ↦ elim (has_or_none places) [
      | inl later ↦ inl (suc later.0, later.1, later.2)
      | inr none ↦ inr (none_with first places other none)
    ]
  ]

-- ---- the spans of all of them

module _ (live : List Found) (endpoint : ℕ) (one : OneSpan live endpoint) where
  abbrev To : ℕ → Type 0
  To n = (spans : List LiveSpan) × AreSpansTo live endpoint n spans

  one_to : (n : ℕ) (found : Found) → slice_get live n ≡ Some found → To n → To (n + 1)
  one_to n found there before = elim (has_or_none endpoint found.spans) [
    | inl at ↦
        let span : LiveSpan = record { region = n; slot = at.0; start = at.1; len = slot_length found } in
        (before.0 ++ span ∷ [], one_more live endpoint n before.0 found span one before.1 there refl (record { place = at.2; len = refl }))
    | inr none ↦ (before.0, no_more live endpoint n before.0 found before.1 there (λ other is. none other.slot other.start is.place))
  ]

  all_to : (n : ℕ) → n ≤ length live → To n
  all_to zero within = ([], none_yet live endpoint)
  all_to (suc n) within = elim (slice_get_cases live n).1 [
    | inl at ↦ subst To (omega arith) (one_to n at.0 at.2 (all_to n (omega (arith, within))))
    | inr past ↦ absurd (let out = past.0 in omega (arith, within, out))
  ]

  pub some_listing : SharesNoByte live endpoint → (spans : List LiveSpan) × AreLiveSpans live endpoint spans
  some_listing shares =
      let all = all_to (length live) (omega arith) in
      let sorted = ordered all.0 in
      (sorted.0, in_order live endpoint all.0 sorted.0 shares all.1 sorted.1 sorted.2)
