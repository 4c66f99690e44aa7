-- What the records of a table are, one record more.
use Rattle.std.proofs.Common.{◌≡◌, ℕ, ◌+◌, ◌<◌, List, [], ◌∷◌, ◌++◌, length, get_or, take, Option, ap, sym, ◌∙◌}
use Rattle.std.specs.List.{flat_map, filter_map, cons_option}
use Rattle.std.proofs.lemmas.List.{take_more, append-nil}
use Rattle.std.proofs.lemmas.Grind.{flat_map-append}
use Rattle.std.proofs.lemmas.List.Elements.{filter_map-append}

module _ {X : Type 0} (xs : List X) (i : ℕ) (x : X) (there : i < length xs) (x-is : x ≡ get_or xs i x) where
  front : take (i + 1) xs ≡ take i xs ++ x ∷ []
  front = take_more xs i x there ∙ ap (λ (y : X). take i xs ++ y ∷ []) (sym x-is)

  pub filter_map_more : {Y : Type 0} (f : X → Option Y) → filter_map f (take (i + 1) xs) ≡ filter_map f (take i xs) ++ cons_option (f x) []
  filter_map_more f = ap (filter_map f) front ∙ filter_map-append f (take i xs) (x ∷ [])

  pub flat_map_one_more : {Y : Type 0} (f : X → List Y) → flat_map f (take (i + 1) xs) ≡ flat_map f (take i xs) ++ f x
  flat_map_one_more {Y} f = ap (flat_map f) front ∙ flat_map-append f (take i xs) (x ∷ []) ∙ ap (λ (ys : List Y). flat_map f (take i xs) ++ ys) (append-nil (f x))
