-- What holds of the items of two lists, place by place.
use Rattle.std.proofs.Common.{◌≡◌, ℕ, zero, suc, Some, subst, ◌<◌, List, [], ◌∷◌, ◌++◌, map, length, get_or, refl, arith}
use Rattle.std.specs.Prelude.{Contains, slice_get}
use Rattle.std.specs.List.{AllZip}
use Rattle.std.proofs.lemmas.List.{get_or_default}
use Rattle.std.proofs.lemmas.Option.{none-some, same_Some}

pub there : {A : Type 0} (xs : List A) (k : ℕ) (d : A) → k < length xs → Contains xs (get_or xs k d)
there xs k d low = (k, low, get_or_default xs k (get_or xs k d) d low)

further : {A : Type 0} (x : A) (xs : List A) (z : A) → Contains xs z → Contains (x ∷ xs) z
further x xs z (k, low, read) = (suc k, omega arith, read)

pub zip_weaker : {A B : Type 0} (P Q : A → B → Type 0) (xs : List A) (ys : List B) → ((x : A) (y : B) → Contains xs x → P x y → Q x y) → AllZip P xs ys → AllZip Q xs ys
zip_weaker P Q [] [] each all = all
zip_weaker P Q [] (y ∷ ys) each all = all
zip_weaker P Q (x ∷ xs) [] each all = all
zip_weaker P Q (x ∷ xs) (y ∷ ys) each all =
    (each x y (0, omega arith, refl) all.0, zip_weaker P Q xs ys (λ z y inside is. each z y (further x xs z inside) is) all.1)

-- the same of the images of the first ones
pub zip_map : {A B C : Type 0} (f : A → C) (P : A → B → Type 0) (Q : C → B → Type 0) (xs : List A) (ys : List B) → ((x : A) (y : B) → Contains xs x → P x y → Q (f x) y) → AllZip P xs ys
    → AllZip Q (map f xs) ys
zip_map f P Q [] [] each all = all
zip_map f P Q [] (y ∷ ys) each all = all
zip_map f P Q (x ∷ xs) [] each all = all
zip_map f P Q (x ∷ xs) (y ∷ ys) each all =
    (each x y (0, omega arith, refl) all.0, zip_map f P Q xs ys (λ z y inside is. each z y (further x xs z inside) is) all.1)

-- one more of each
pub zip_push : {A B : Type 0} (P : A → B → Type 0) (xs : List A) (ys : List B) (x : A) (y : B) → AllZip P xs ys → P x y → AllZip P (xs ++ x ∷ []) (ys ++ y ∷ [])
zip_push P [] [] x y all is = (is, all)
zip_push P [] (z ∷ ys) x y all is = absurd all
zip_push P (w ∷ xs) [] x y all is = absurd all
zip_push P (w ∷ xs) (z ∷ ys) x y all is = (all.0, zip_push P xs ys x y all.1 is)

-- what holds at a place
pub zip_at : {A B : Type 0} (P : A → B → Type 0) (xs : List A) (ys : List B) (k : ℕ) (x : A) (y : B) → AllZip P xs ys → slice_get xs k ≡ Some x → slice_get ys k ≡ Some y → P x y
zip_at P [] ys k x y all x_at y_at = absurd (none-some x x_at)
zip_at P (a ∷ xs) [] k x y all x_at y_at = absurd all
zip_at P (a ∷ xs) (b ∷ ys) zero x y all x_at y_at =
    subst (λ z. P z y) (same_Some a x x_at) (subst (P a) (same_Some b y y_at) all.0)
zip_at P (a ∷ xs) (b ∷ ys) (suc k) x y all x_at y_at = zip_at P xs ys k x y all.1 x_at y_at
