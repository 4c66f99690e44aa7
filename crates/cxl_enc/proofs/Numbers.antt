-- Numbers: induction from lower ones, products, and the numbers of a range in order.
use Rattle.std.proofs.Common.{ℕ, zero, suc, ◌<◌, arith, ◌*◌, ◌≤◌, ◌≡◌, ◌/◌, sym, ap, ◌∙◌, cond, Bool, true, subst, ◌+◌, false, ◌||◌, refl, List, [], ◌∷◌, ◌++◌}
use Rattle.std.proofs.Math.Nat.{mul-div_cancel_left, dvd-mul_right, eq-one_of_dvd-one}
use Rattle.std.specs.Prelude.{◌==◌, AllPairs}
use Rattle.std.proofs.lemmas.Bool.{ne_eqb}
use Rattle.std.specs.List.{list_any, range_with_len}
use Rattle.std.proofs.lemmas.List.Folds.{list_any_at}
use Rattle.std.proofs.lemmas.List.FromFn.{length-range_with_len, get_or-range_with_len}

-- ---- induction

below : (P : ℕ → Type 0) → ((n : ℕ) → ((m : ℕ) → m < n → P m) → P n) → (k n : ℕ) → n < k → P n
below P step zero n less = absurd (omega arith)
below P step (suc k) n less = step n (λ m lower. below P step k m (omega arith))

-- what holds of a number where it holds of all lower ones holds of all
pub from_lower : (P : ℕ → Type 0) → ((n : ℕ) → ((m : ℕ) → m < n → P m) → P n) → (n : ℕ) → P n
from_lower P step n = below P step (suc n) n (omega arith)

-- ---- products

abbrev pub sixteens : ℕ → ℕ
sixteens zero = 1
sixteens (suc m) = 16 * sixteens m

pub times : (a b p q : ℕ) → a ≤ b → p ≤ q → a * p ≤ b * q
times a b p q ab pq = grind arith

pub some_product : (a p : ℕ) → 0 < a → 0 < p → 0 < a * p
some_product a p some rest = times 1 a 1 p some rest

-- p times a is p times b only where a is b
pub times_tell : (p a b : ℕ) → 0 < p → p * a ≡ p * b → a ≡ b
times_tell p a b some same = sym (mul-div_cancel_left a some) ∙ ap (λ (k : ℕ). k / p) same ∙ mul-div_cancel_left b some

pub some_factor : (p q n : ℕ) → p * q ≡ n → 0 < n → 0 < p
some_factor zero q n is some = absurd (omega (arith, is, some))
some_factor (suc p) q n is some = omega arith

-- so many times so many are some
pub some_first_factor : (n a b k : ℕ) → n * a * b ≡ k → 0 < k → 0 < n
some_first_factor zero a b k is some = absurd (omega (arith, is, some))
some_first_factor (suc n) a b k is some = omega arith

pub some_count : (n x : ℕ) → 0 < n → cond (n == 0) 0 x ≡ x
some_count n x some = ap (λ b. cond b 0 x) (ne_eqb n 0 (λ e. omega (arith, e)))

pub no_count : (n x : ℕ) → n ≡ 0 → cond (n == 0) 0 x ≡ 0
no_count n x none = ap (λ (k : ℕ). cond (k == 0) 0 x) none

-- a factor of 1 is 1
pub factor_one : (p q : ℕ) → p * q ≡ 1 → p ≡ 1
factor_one p q is = eq-one_of_dvd-one (rw is at (dvd-mul_right p q))

-- ---- the numbers of a range

pub is_number : (test : ℕ → Bool) (n k : ℕ) → k < n → test k ≡ true → list_any test (range_with_len 0 n) ≡ true
is_number test n k within passes =
    list_any_at test (range_with_len 0 n) k 0 (subst (λ (m : ℕ). k < m) (sym (length-range_with_len 0 n)) within)
    (ap test (get_or-range_with_len 0 n k 0 within ∙ omega arith) ∙ passes)

pub not_before : (x a n : ℕ) → x < a → list_any (λ m. m == x) (range_with_len a n) ≡ false
not_before x a zero less = refl
not_before x a (suc n) less = ap (λ b. b || list_any (λ m. m == x) (range_with_len (a + 1) n)) (ne_eqb a x (omega arith)) ∙ not_before x (a + 1) n (omega arith)

pub numbers_more : (a n : ℕ) → range_with_len a (n + 1) ≡ range_with_len a n ++ (a + n) ∷ []
numbers_more a zero = let e : a + 0 ≡ a = omega arith in rw e refl
numbers_more a (suc n) =
    let e : suc n + 1 ≡ suc (n + 1) = omega arith in
    let f : (a + 1) + n ≡ a + suc n = omega arith in
    rw e (ap (λ (xs : List ℕ). a ∷ xs) (numbers_more (a + 1) n ∙ ap (λ (m : ℕ). range_with_len (a + 1) n ++ m ∷ []) f))

pub range_more : (a n j : ℕ) → a + n ≡ j → range_with_len a (suc n) ≡ range_with_len a n ++ j ∷ []
range_more a zero j is = ap (λ (k : ℕ). k ∷ []) (omega arith)
range_more a (suc n) j is = ap (λ (ks : List ℕ). a ∷ ks) (range_more (a + 1) n j (omega arith))

pub numbers_append : (a m n : ℕ) → range_with_len a (m + n) ≡ range_with_len a m ++ range_with_len (a + m) n
numbers_append a zero n =
    let none : zero + n ≡ n = omega arith in
    let here : a ≡ a + zero = omega arith in
    ap (range_with_len a) none ∙ ap (λ (x : ℕ). range_with_len x n) here
numbers_append a (suc m) n =
    let more : suc m + n ≡ suc (m + n) = omega arith in
    let next : (a + 1) + m ≡ a + suc m = omega arith in
    ap (range_with_len a) more ∙ ap (λ (xs : List ℕ). a ∷ xs) (numbers_append (a + 1) m n ∙ ap (λ (x : ℕ). range_with_len (a + 1) m ++ range_with_len x n) next)

pub numbers_rise : (n : ℕ) → AllPairs (λ a b. a < b) (range_with_len 0 n)
numbers_rise n i j d less within =
    let long = length-range_with_len 0 n in
    let first = get_or-range_with_len 0 n i d (omega arith) in
    let next = get_or-range_with_len 0 n j d (omega arith) in
    omega arith
