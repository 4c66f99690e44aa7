-- Lists of what is given.
use Rattle.std.proofs.Common.{◌≡◌, ℕ, suc, ◌+◌, ◌≤◌, Bool, true, false, cond, List, [], ◌∷◌, ◌++◌, length, Option, Some, None, refl, ap, ◌∙◌, inl, inr, arith}
use Rattle.std.specs.Prelude.{◌==◌, if◌then◌else◌, option_map, filter}
use Rattle.std.specs.List.{filter_map, cons_option, range_with_len}
use Rattle.std.proofs.lemmas.Bool.{or_cases, or_left, or_right, eqb-true, eq-eqb, false≢true}
use Rattle.std.proofs.lemmas.List.{length-append}
use Rattle.std.proofs.lemmas.List.FromFn.{length-range_with_len}
use Rattle.std.proofs.lemmas.List.Elements.{filter_map-append}
use Rattle.cxl_enc.proofs.Lists.{is_in, few_filtered}
use Rattle.cxl_enc.proofs.Numbers.{range_more}
use Rattle.cxl_reason.specs.inner.Gifts.{one_if}

-- ---- what is given for a member

-- a member is given by something
pub given_from : (g : ℕ → Option ℕ) (xs : List ℕ) (c : ℕ) → is_in c (filter_map g xs) ≡ true → (e : ℕ) × (g e ≡ Some c)
given_from g [] c there = absurd (false≢true there)
given_from g (x ∷ xs) c there = go (given_from g xs c) (g x) refl there
  where
    go : (is_in c (filter_map g xs) ≡ true → (e : ℕ) × (g e ≡ Some c)) → (o : Option ℕ) → g x ≡ o → is_in c (cons_option o (filter_map g xs)) ≡ true → (e : ℕ) × (g e ≡ Some c)
    go rest None at in_rest = rest in_rest
    go rest (Some d) at in_all =
        elim (or_cases (d == c) (is_in c (filter_map g xs)) in_all) [
          | inl here ↦ (x, at ∙ ap Some (eqb-true d c here))
          | inr later ↦ rest later
        ]

pub filter_map-same : {Y : Type 0} (f g : ℕ → Option Y) (xs : List ℕ) → ((x : ℕ) → is_in x xs ≡ true → f x ≡ g x) → filter_map f xs ≡ filter_map g xs
filter_map-same f g [] same = refl
filter_map-same f g (x ∷ xs) same =
    ap (λ o. cons_option o (filter_map f xs)) (same x (or_left (x == x) (is_in x xs) (eq-eqb x x refl)))
    ∙ ap (cons_option (g x)) (filter_map-same f g xs (λ y there. same y (or_right (x == y) (is_in y xs) there)))

-- no more is given than there is
pub no_more_given : {X Y : Type 0} (f : X → Option Y) (xs : List X) → length (filter_map f xs) ≤ length xs
no_more_given f [] = omega arith
no_more_given {Y = Y} f (x ∷ xs) = let rest = no_more_given f xs in go (f x) rest
  where
    go : (o : Option Y) → length (filter_map f xs) ≤ length xs → length (cons_option o (filter_map f xs)) ≤ suc (length xs)
    go None less = omega (arith, less)
    go (Some y) less = omega (arith, less)

-- one number more
pub numbers_given : (g : ℕ → Option ℕ) (port : ℕ) → filter_map g (range_with_len 0 (port + 1)) ≡ filter_map g (range_with_len 0 port) ++ cons_option (g port) []
numbers_given g port =
    let more : port + 1 ≡ suc port = omega arith in
    ap (λ (n : ℕ). filter_map g (range_with_len 0 n)) more
    ∙ ap (filter_map g) (range_more 0 port port (omega arith))
    ∙ filter_map-append g (range_with_len 0 port) (port ∷ [])

-- ---- counts

pub one_few : {A : Type 0} (o : Option A) → one_if o ≤ 1
one_few None = omega arith
one_few (Some x) = omega arith

pub one_mapped : {A B : Type 0} (f : A → B) (o : Option A) → one_if (option_map f o) ≡ one_if o
one_mapped f None = refl
one_mapped f (Some x) = refl

pub count_one : {Y : Type 0} (o : Option Y) → length (cons_option o []) ≡ one_if o
count_one None = refl
count_one (Some y) = refl

-- ---- numbers that pass a test

filter_append : (p : ℕ → Bool) (xs ys : List ℕ) → filter p (xs ++ ys) ≡ filter p xs ++ filter p ys
filter_append p [] ys = refl
filter_append p (x ∷ xs) ys = ap (λ zs. cond (p x) (x ∷ zs) zs) (filter_append p xs ys) ∙ either (p x)
  where
    either : (b : Bool) → cond b (x ∷ (filter p xs ++ filter p ys)) (filter p xs ++ filter p ys) ≡ cond b (x ∷ filter p xs) (filter p xs) ++ filter p ys
    either true = refl
    either false = refl

-- one number more
pub count_more : (p : ℕ → Bool) (n : ℕ) → length (filter p (range_with_len 0 (n + 1))) ≡ length (filter p (range_with_len 0 n)) + (if p n then 1 else 0)
count_more p n =
    let more : n + 1 ≡ suc n = omega arith in
    ap (λ (k : ℕ). length (filter p (range_with_len 0 k))) more
    ∙ ap (λ ns. length (filter p ns)) (range_more 0 n n (omega arith))
    ∙ ap length (filter_append p (range_with_len 0 n) (n ∷ []))
    ∙ length-append (filter p (range_with_len 0 n)) (filter p (n ∷ []))
    ∙ ap (λ (k : ℕ). length (filter p (range_with_len 0 n)) + k) (single (p n))
  where
    single : (b : Bool) → length (cond b (n ∷ []) []) ≡ (if b then 1 else 0)
    single true = refl
    single false = refl

pub count_few : (p : ℕ → Bool) (n : ℕ) → length (filter p (range_with_len 0 n)) ≤ n
count_few p n =
    let few = few_filtered p (range_with_len 0 n) in
    let all = length-range_with_len 0 n in
    omega (arith, few, all)
