-- Whether each target gives something, and whether a bridge of one stands above a node.
use Rattle.std.proofs.Common.{◌≡◌, ℕ, zero, suc, ◌<◌, Bool, true, false, not, ◌||◌, List, [], ◌∷◌, ◌++◌, length, get_or, map, Option, Some, None, refl, sym, ◌∙◌, arith}
use Rattle.std.specs.Prelude.{◌==◌, is_some, option_map, option_and_then}
use Rattle.std.specs.List.{list_any}
use Rattle.std.proofs.lemmas.Bool.{false≢true}
use Rattle.cxl_pick.specs.Picking.{all_given}
use Rattle.cxl_reason.specs.inner.Gifts.{one_if}

pub one_tells : {A : Type 0} (o : Option A) → not (one_if o == 0) ≡ is_some o
one_tells None = refl
one_tells (Some x) = refl

joined : (o rest : Option (List ℕ)) → is_some o ≡ true → is_some rest ≡ true → is_some (option_and_then (λ ns. option_map (λ ms. ns ++ ms) rest) o) ≡ true
joined None rest first later = absurd (false≢true first)
joined (Some ns) None first later = absurd (false≢true later)
joined (Some ns) (Some ms) first later = refl

pub all_some : (f : ℕ → Option (List ℕ)) (xs : List ℕ) → ((k : ℕ) → k < length xs → is_some (f (get_or xs k 0)) ≡ true) → is_some (all_given (map f xs)) ≡ true
all_some f [] each = refl
all_some f (x ∷ xs) each = joined (f x) (all_given (map f xs)) (each 0 (omega arith)) (all_some f xs (λ k within. each (suc k) (omega (arith, within))))

without_first : (o rest : Option (List ℕ)) → is_some o ≡ false → is_some (option_and_then (λ ns. option_map (λ ms. ns ++ ms) rest) o) ≡ false
without_first None rest none = refl
without_first (Some ns) rest none = absurd (false≢true (sym none))

without_rest : (o rest : Option (List ℕ)) → is_some rest ≡ false → is_some (option_and_then (λ ns. option_map (λ ms. ns ++ ms) rest) o) ≡ false
without_rest None rest none = refl
without_rest (Some ns) None none = refl
without_rest (Some ns) (Some ms) none = absurd (false≢true (sym none))

pub none_given : (f : ℕ → Option (List ℕ)) (xs : List ℕ) (k : ℕ) → k < length xs → is_some (f (get_or xs k 0)) ≡ false → is_some (all_given (map f xs)) ≡ false
none_given f [] k within none = absurd (omega (arith, within))
none_given f (x ∷ xs) zero within none = without_first (f x) (all_given (map f xs)) none
none_given f (x ∷ xs) (suc k) within none = without_rest (f x) (all_given (map f xs)) (none_given f xs k (omega (arith, within)) none)

pub none_passes : (p : ℕ → Bool) (xs : List ℕ) → ((k : ℕ) → k < length xs → p (get_or xs k 0) ≡ false) → list_any p xs ≡ false
none_passes p [] each = refl
none_passes p (x ∷ xs) each = (λ i. each 0 (omega arith) i || list_any p xs) ∙ none_passes p xs (λ k within. each (suc k) (omega (arith, within)))
