-- Sums over a list: how many of its elements pass a test, and two sums in either order.
use Rattle.std.proofs.Common.{ℕ, Bool, true, false, ◌+◌, List, [], ◌∷◌, ◌≡◌, cond, length, arith, refl, ap, ◌∙◌, sym, ◌*◌, suc, ◌||◌, not, ◌<◌, ◌⊎◌, ◌&&◌, inl, inr, ◌≤◌}
use Rattle.std.specs.Prelude.{filter, All, ◌==◌}
use Rattle.std.proofs.Math.Nat.{add-mul}
use Rattle.std.proofs.lemmas.List.Elements.{All-head, All-tail, All-nil, All-cons}
use Rattle.std.specs.List.{list_any, range_with_len}
use Rattle.std.proofs.lemmas.Bool.{eq-eqb, false_from_ne_true, false≢true, not-true, and_parts, cases_Bool, and_from, eqb-true}
use Rattle.std.proofs.lemmas.List.Folds.{Any-from_list_any}
use Rattle.cxl_enc.proofs.Lists.{list_any-weaker}
use Rattle.cxl_enc.proofs.Numbers.{is_number}
use Rattle.cxl_model.specs.Rules.{are_distinct}
use Rattle.cxl_model.proofs.Distinct.{numbers_differ}

abbrev pub one : Bool → ℕ
one true = 1
one false = 0

abbrev pub total : {X : Type 0} → (X → ℕ) → List X → ℕ
total f [] = 0
total f (x ∷ xs) = f x + total f xs

-- ---- a filter's length

kept_or_not : {X : Type 0} (b : Bool) (x : X) (ys : List X) → length (cond b (x ∷ ys) ys) ≡ one b + length ys
kept_or_not true x ys = omega arith
kept_or_not false x ys = omega arith

pub length-filter-total : {X : Type 0} (p : X → Bool) (xs : List X) → length (filter p xs) ≡ total (λ x. one (p x)) xs
length-filter-total p [] = refl
length-filter-total p (x ∷ xs) = kept_or_not (p x) x (filter p xs) ∙ ap (λ n. one (p x) + n) (length-filter-total p xs)

-- ---- sums

pub total-same : {X : Type 0} (f g : X → ℕ) → ((x : X) → f x ≡ g x) → (xs : List X) → total f xs ≡ total g xs
total-same f g same [] = refl
total-same f g same (x ∷ xs) = ap (λ n. n + total f xs) (same x) ∙ ap (λ n. g x + n) (total-same f g same xs)

pub total-zero : {X : Type 0} (xs : List X) → total (λ (x : X). 0) xs ≡ 0
total-zero [] = refl
total-zero (x ∷ xs) = let rest = total-zero xs in omega (arith, rest)

total-plus : {X : Type 0} (f g : X → ℕ) (xs : List X) → total (λ x. f x + g x) xs ≡ total f xs + total g xs
total-plus f g [] = refl
total-plus f g (x ∷ xs) = let rest = total-plus f g xs in omega (arith, rest)

-- two sums in either order
pub exchange : {X Y : Type 0} (F : X → Y → ℕ) (xs : List X) (ys : List Y)
    → total (λ x. total (λ y. F x y) ys) xs ≡ total (λ y. total (λ x. F x y) xs) ys
exchange F [] ys = sym (total-zero ys)
exchange F (x ∷ xs) ys =
    ap (λ n. total (λ y. F x y) ys + n) (exchange F xs ys) ∙ sym (total-plus (λ y. F x y) (λ y. total (λ x. F x y) xs) ys)

-- where each summand times c is r, the sum times c is r as often as there are summands
pub total_even : {X : Type 0} (f : X → ℕ) (c r : ℕ) (xs : List X) → All (λ x. f x * c ≡ r) xs → total f xs * c ≡ length xs * r
total_even f c r [] each = omega arith
total_even f c r (x ∷ xs) each =
    let first = All-head (λ x. f x * c ≡ r) x xs each in
    let rest = total_even f c r xs (All-tail (λ x. f x * c ≡ r) x xs each) in
    let parts = add-mul (f x) (total f xs) c in
    let more = add-mul 1 (length xs) r in
    let suc_is : length (x ∷ xs) ≡ 1 + length xs = omega arith in
    let right : length (x ∷ xs) * r ≡ (1 + length xs) * r = ap (λ n. n * r) suc_is in
    omega (arith, first, rest, parts, more, right)

pub total_each : {X : Type 0} (f g : X → ℕ) (xs : List X) → All (λ x. f x ≡ g x) xs → total f xs ≡ total g xs
total_each f g [] each = refl
total_each f g (x ∷ xs) each =
    let first = All-head (λ y. f y ≡ g y) x xs each in
    let rest = total_each f g xs (All-tail (λ y. f y ≡ g y) x xs each) in
    omega (arith, first, rest)

pub length_total : {X : Type 0} (xs : List X) → total (λ (x : X). one true) xs ≡ length xs
length_total [] = refl
length_total (x ∷ xs) = let rest = length_total xs in omega (arith, rest)

pub total_same_each : {X : Type 0} (f : X → ℕ) (v : ℕ) (xs : List X) → All (λ x. f x ≡ v) xs → total f xs ≡ length xs * v
total_same_each f v [] each = omega arith
total_same_each f v (x ∷ xs) each =
    let first = All-head (λ y. f y ≡ v) x xs each in
    let rest = total_same_each f v xs (All-tail (λ y. f y ≡ v) x xs each) in
    let out : suc (length xs) * v ≡ v + length xs * v = omega arith in
    omega (arith, first, rest, out)

-- ---- numbers of which one passes

-- a test that at most one number passes, over numbers that differ: one of them passes, or none
once_step : (passes any : Bool) (rest : ℕ) → rest ≡ one any → (passes ≡ true → any ≡ false) → one passes + rest ≡ one (passes || any)
once_step true any rest is none =
    let no : one any ≡ 0 = ap one (none refl) in
    omega (arith, is, no)
once_step false any rest is none = omega (arith, is)

-- the others fail where the first passes
others_fail : (q : ℕ → Bool) → ((a b : ℕ) → q a ≡ true → q b ≡ true → a ≡ b) → (n : ℕ) (ns : List ℕ) → not (list_any (λ m. m == n) ns) ≡ true → q n ≡ true
    → list_any q ns ≡ false
others_fail q same n ns distinct passes =
    false_from_ne_true (list_any q ns) (λ any.
    false≢true (sym (not-true (list_any (λ m. m == n) ns) distinct) ∙ list_any-weaker q (λ m. m == n) (λ m m_passes. eq-eqb m n (same m n m_passes passes)) ns any))

pub once : (q : ℕ → Bool) → ((a b : ℕ) → q a ≡ true → q b ≡ true → a ≡ b) → (ns : List ℕ) → are_distinct ns ≡ true
    → total (λ n. one (q n)) ns ≡ one (list_any q ns)
once q same [] distinct = refl
once q same (n ∷ ns) distinct =
    let parts = and_parts (not (list_any (λ m. m == n) ns)) (are_distinct ns) distinct in
    once_step (q n) (list_any q ns) (total (λ n. one (q n)) ns) (once q same ns parts.1) (others_fail q same n ns parts.0)

pub once_below : (p : ℕ → Bool) (n e : ℕ) → e < n → total (λ m. one ((e == m) && p m)) (range_with_len 0 n) ≡ one (p e)
once_below p n e within =
    once (λ m. (e == m) && p m) same (range_with_len 0 n) (numbers_differ 0 n) ∙ ap one (there (cases_Bool (p e)))
  where
    same : (a b : ℕ) → ((e == a) && p a) ≡ true → ((e == b) && p b) ≡ true → a ≡ b
    same a b first second = sym (eqb-true e a (and_parts (e == a) (p a) first).0) ∙ eqb-true e b (and_parts (e == b) (p b) second).0

    there : (p e ≡ true) ⊎ (p e ≡ false) → list_any (λ m. (e == m) && p m) (range_with_len 0 n) ≡ p e
    there (inl passes) = is_number (λ m. (e == m) && p m) n e within (and_from (e == e) (p e) (eq-eqb e e refl) passes) ∙ sym passes
    there (inr fails) =
        false_from_ne_true (list_any (λ m. (e == m) && p m) (range_with_len 0 n)) (λ any.
        let some = Any-from_list_any (λ m. (e == m) && p m) (range_with_len 0 n) any in
        let parts = and_parts (e == some.1) (p some.1) some.4 in
        false≢true (sym fails ∙ ap p (eqb-true e some.1 parts.0) ∙ parts.1)) ∙ sym fails

-- ---- sums of which one is nowhere above the other

total-le : {X : Type 0} (f g : X → ℕ) → ((x : X) → f x ≤ g x) → (xs : List X) → total f xs ≤ total g xs
total-le f g least [] = omega arith
total-le f g least (x ∷ xs) =
    let first = least x in
    let rest = total-le f g least xs in
    omega (arith, first, rest)

-- equal sums have equal summands, where those of one are nowhere above those of the other
pub summands_same : {X : Type 0} (f g : X → ℕ) → ((x : X) → f x ≤ g x) → (xs : List X) → total f xs ≡ total g xs → All (λ x. f x ≡ g x) xs
summands_same f g least [] same = All-nil (λ x. f x ≡ g x)
summands_same f g least (x ∷ xs) same =
    let first = least x in
    let rest = total-le f g least xs in
    All-cons (λ x. f x ≡ g x) x xs (omega (arith, first, rest, same)) (summands_same f g least xs (omega (arith, first, rest, same)))
