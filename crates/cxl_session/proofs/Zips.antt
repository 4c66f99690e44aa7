-- Lists in which an item is put in, or from which one is taken.
use Rattle.std.proofs.Common.{◌≡◌, ℕ, zero, suc, List, [], ◌∷◌, ◌++◌, map, take, drop, refl, sym, ap, ◌∙◌, arith}
use Rattle.std.specs.Prelude.{Contains, insert, remove}
use Rattle.std.specs.List.{AllZip}
use Rattle.std.proofs.lemmas.List.{map-append, take-map, drop-map}

module _ {A B : Type 0} (f : A → B) where
  pub map-insert : (xs : List A) (i : ℕ) (x : A) → map f (insert xs i x) ≡ insert (map f xs) i (f x)
  map-insert xs i x =
      map-append f (take i xs) (x ∷ drop i xs)
      ∙ ap (λ (ys : List B). ys ++ f x ∷ map f (drop i xs)) (sym (take-map f i xs))
      ∙ ap (λ (ys : List B). take i (map f xs) ++ f x ∷ ys) (sym (drop-map f i xs))

  pub map-remove : (xs : List A) (i : ℕ) → map f (remove xs i) ≡ remove (map f xs) i
  map-remove xs i =
      map-append f (take i xs) (drop (suc i) xs)
      ∙ ap (λ (ys : List B). ys ++ map f (drop (suc i) xs)) (sym (take-map f i xs))
      ∙ ap (λ (ys : List B). take i (map f xs) ++ ys) (sym (drop-map f (suc i) xs))

-- ---- two lists side by side

module _ {A B : Type 0} (R : A → B → Type 0) where
  pub zip_append : (xs us : List A) (ys vs : List B) → AllZip R xs ys → AllZip R us vs → AllZip R (xs ++ us) (ys ++ vs)
  zip_append [] us [] vs first second = second
  zip_append [] us (y ∷ ys) vs first second = absurd first
  zip_append (x ∷ xs) us [] vs first second = absurd first
  zip_append (x ∷ xs) us (y ∷ ys) vs first second = (first.0, zip_append xs us ys vs first.1 second)

  zip_take : (i : ℕ) (xs : List A) (ys : List B) → AllZip R xs ys → AllZip R (take i xs) (take i ys)
  zip_take zero xs ys all = tt
  zip_take (suc i) [] [] all = tt
  zip_take (suc i) [] (y ∷ ys) all = absurd all
  zip_take (suc i) (x ∷ xs) [] all = absurd all
  zip_take (suc i) (x ∷ xs) (y ∷ ys) all = (all.0, zip_take i xs ys all.1)

  zip_drop : (i : ℕ) (xs : List A) (ys : List B) → AllZip R xs ys → AllZip R (drop i xs) (drop i ys)
  zip_drop zero xs ys all = all
  zip_drop (suc i) [] [] all = tt
  zip_drop (suc i) [] (y ∷ ys) all = absurd all
  zip_drop (suc i) (x ∷ xs) [] all = absurd all
  zip_drop (suc i) (x ∷ xs) (y ∷ ys) all = zip_drop i xs ys all.1

  pub zip_insert : (i : ℕ) (xs : List A) (ys : List B) (x : A) (y : B) → AllZip R xs ys → R x y → AllZip R (insert xs i x) (insert ys i y)
  zip_insert i xs ys x y all one =
      zip_append (take i xs) (x ∷ drop i xs) (take i ys) (y ∷ drop i ys) (zip_take i xs ys all) (one, zip_drop i xs ys all)

  pub zip_remove : (i : ℕ) (xs : List A) (ys : List B) → AllZip R xs ys → AllZip R (remove xs i) (remove ys i)
  zip_remove i xs ys all =
      zip_append (take i xs) (drop (suc i) xs) (take i ys) (drop (suc i) ys) (zip_take i xs ys all) (zip_drop (suc i) xs ys all)

  -- what holds of each of them with its fellow
  pub zip_each : {Q : A → B → Type 0} (xs : List A) (ys : List B) → ((x : A) (y : B) → Contains xs x → Q x y → R x y) → AllZip Q xs ys → AllZip R xs ys
  zip_each [] [] keeps all = tt
  zip_each [] (y ∷ ys) keeps all = absurd all
  zip_each (x ∷ xs) [] keeps all = absurd all
  zip_each (x ∷ xs) (y ∷ ys) keeps all = (
    keeps x y (0, omega arith, refl) all.0,
    zip_each xs ys (λ z w there. keeps z w (suc there.0, (let low = there.1 in omega (arith, low)), there.2)) all.1,
  )
