-- Lists that grow by one item.
use Rattle.std.proofs.Common.{◌≡◌, ℕ, ◌+◌, List, [], ◌∷◌, ◌++◌, take, Some, sym, ap, ◌∙◌, append_assoc}
use Rattle.std.specs.Prelude.{map, slice_get}
use Rattle.std.specs.List.{range_with_len}
use Rattle.std.proofs.lemmas.List.{take_more}
use Rattle.std.proofs.lemmas.List.FromFn.{map-range_with_len_more}
use Rattle.std.proofs.lemmas.Option.{slice_get_within, get_or_from_slice_get}

-- the item of the next number is pushed
module _ {X : Type 0} (f : ℕ → X) where
  mapped_more : (old : List X) (a n j : ℕ) → a + n ≡ j → old ++ map f (range_with_len a n) ++ f j ∷ [] ≡ old ++ map f (range_with_len a (n + 1))
  mapped_more old a n j e = append_assoc old (map f (range_with_len a n)) (f j ∷ []) ∙ ap (λ xs. old ++ xs) (sym (map-range_with_len_more f a n j e))

  pub pushed : (old now new : List X) (a n j : ℕ) (x : X) → a + n ≡ j → now ≡ old ++ map f (range_with_len a n) → x ≡ f j → new ≡ now ++ x ∷ []
      → new ≡ old ++ map f (range_with_len a (n + 1))
  pushed old now new a n j x e before is push =
      push ∙ ap (λ xs. xs ++ x ∷ []) before ∙ ap (λ (y : X). old ++ map f (range_with_len a n) ++ y ∷ []) is ∙ mapped_more old a n j e

-- the next item is taken, too
pub take_next : {X : Type 0} (xs : List X) (i : ℕ) (x : X) → slice_get xs i ≡ Some x → take (i + 1) xs ≡ take i xs ++ x ∷ []
take_next xs i x is = take_more xs i x (slice_get_within xs i x is) ∙ ap (λ y. take i xs ++ y ∷ []) (get_or_from_slice_get xs i x x is)

pub next_taken : {X : Type 0} (xs now new : List X) (i : ℕ) (x : X) → now ≡ take i xs → slice_get xs i ≡ Some x → new ≡ now ++ x ∷ [] → new ≡ take (i + 1) xs
next_taken xs now new i x before is push = push ∙ ap (λ ys. ys ++ x ∷ []) before ∙ sym (take_next xs i x is)
