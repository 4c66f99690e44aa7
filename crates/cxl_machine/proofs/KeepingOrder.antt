-- Lists in another order, and the front of a list.
use Rattle.std.proofs.Common.{◌≡◌, ◌≢◌, ℕ, ◌<◌, List, [], ◌∷◌, ◌++◌, length, get_or, refl, sym, ap, ◌∙◌, subst, inl, inr, arith}
use Rattle.std.specs.Prelude.{All, AllPairs, insert, remove}
use Rattle.std.specs.List.{swap}
use Rattle.std.proofs.lemmas.Bool.{cases_order, cases_eq}
use Rattle.std.proofs.lemmas.List.Edits.{swapped_from_swap, length-swap}
use Rattle.std.proofs.lemmas.List.{get_or_append_left, length-append}
use Rattle.std.proofs.lemmas.List.Sorted.{IsPermutation-keeps, IsPermutation-to_front, IsPermutation-insert, IsPermutation-remove, IsPermutation-sym, IsPermutation-trans}
use Rattle.std.specs.List.Sorted.{IsPermutation}

module _ {X : Type 0} (R : X → X → Type 0) (turned : (x y : X) → R x y → R y x) where
  -- two places of a list, in either order
  in_any_order : (xs : List X) → AllPairs R xs → (i j : ℕ) (d : X) → i ≢ j → i < length xs → j < length xs → R (get_or xs i d) (get_or xs j d)
  in_any_order xs pairs i j d apart low high =
      elim (cases_order i j) [
        | inl e ↦ absurd (apart e)
        | inr rest ↦ elim rest [
          | inl less ↦ pairs i j d less high
          | inr more ↦ turned (get_or xs j d) (get_or xs i d) (pairs j i d more low)
        ]
      ]

  -- where a place's element stood before two were swapped
  record Was (xs : List X) (i j k : ℕ) (d : X) : Type 0 where
    place : ℕ
    is : get_or (swap xs i j) k d ≡ get_or xs place d
    first : k ≡ i → place ≡ j
    second : k ≡ j → place ≡ i
    other : k ≢ i → k ≢ j → place ≡ k

  was : (xs : List X) (i j k : ℕ) (d : X) → i < length xs → j < length xs → Was xs i j k d
  was xs i j k d low high =
      let moved = swapped_from_swap xs (swap xs i j) i j d low high refl in
      elim (cases_eq k i) [
        | inl e ↦ record { place = j; is = ap (λ (n : ℕ). get_or (swap xs i j) n d) e ∙ moved.0; first = λ same. refl; second = λ same. sym same ∙ e; other = λ one two. absurd (one e) }
        | inr differs ↦ elim (cases_eq k j) [
          | inl e ↦ record { place = i; is = ap (λ (n : ℕ). get_or (swap xs i j) n d) e ∙ moved.1; first = λ same. absurd (differs same); second = λ same. refl; other = λ one two. absurd (two e) }
          | inr other ↦ record { place = k; is = moved.2 k differs other; first = λ same. absurd (differs same); second = λ same. absurd (other same); other = λ one two. refl }
        ]
      ]

  swapped_pairs : (xs : List X) (i j : ℕ) → i < length xs → j < length xs → AllPairs R xs → AllPairs R (swap xs i j)
  swapped_pairs xs i j low high pairs a b d less within =
      let long = length-swap xs i j in
      let one = was xs i j a d low high in
      let two = was xs i j b d low high in
      let apart : one.place ≢ two.place = λ e. grind arith in
      subst (λ (x : X). R x (get_or (swap xs i j) b d)) (sym one.is) (subst (R (get_or xs one.place d)) (sym two.is) (in_any_order xs pairs one.place two.place d apart (grind arith) (grind arith)))

  pub pairs_again : (xs ys : List X) → IsPermutation xs ys → AllPairs R xs → AllPairs R ys
  pairs_again xs ys same pairs = IsPermutation-keeps xs (AllPairs R) pairs (λ l i j low high. swapped_pairs l i j low high) ys same

-- ---- an item that goes to the end, or comes back from there

pub put_back : {X : Type 0} (xs : List X) (x : X) (i : ℕ) → IsPermutation (xs ++ x ∷ []) (insert xs i x)
put_back xs x i = IsPermutation-trans (xs ++ x ∷ []) (x ∷ xs) (insert xs i x) (IsPermutation-to_front xs x) (IsPermutation-insert xs i x)

pub put_last : {X : Type 0} (xs : List X) (x : X) (i : ℕ) → i < length xs → get_or xs i x ≡ x → IsPermutation xs (remove xs i ++ x ∷ [])
put_last xs x i within read =
    IsPermutation-trans xs (x ∷ remove xs i) (remove xs i ++ x ∷ []) (IsPermutation-remove xs i x within (sym read))
    (IsPermutation-sym (remove xs i ++ x ∷ []) (x ∷ remove xs i) (IsPermutation-to_front (remove xs i) x))

-- ---- the front of a list

pub all_front : {X : Type 0} (P : X → Type 0) (xs ys : List X) → All P (xs ++ ys) → All P xs
all_front P xs ys all k d within = subst P (get_or_append_left xs ys d k within) (all k d (omega (arith, within, length-append xs ys)))

pub pairs_front : {X : Type 0} (R : X → X → Type 0) (xs ys : List X) → AllPairs R (xs ++ ys) → AllPairs R xs
pairs_front {X = X} R xs ys pairs i j d less within =
    subst (λ (x : X). R x (get_or xs j d)) (get_or_append_left xs ys d i (omega arith))
    (subst (R (get_or (xs ++ ys) i d)) (get_or_append_left xs ys d j within) (pairs i j d less (omega (arith, within, length-append xs ys))))
