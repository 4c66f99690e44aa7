-- Ways, their exponents, and products of them.
use Rattle.std.proofs.Common.{◌≡◌, ℕ, zero, suc, ◌+◌, ◌*◌, ◌/◌, ◌^◌, ◌<◌, ◌≤◌, Bool, true, false, ◌||◌, [], ◌∷◌, refl, sym, ap, ◌∙◌, subst, inl, inr, arith}
use Rattle.std.specs.Prelude.{◌==◌}
use Rattle.std.specs.List.{list_any}
use Rattle.std.proofs.Math.Nat.{mul-div_cancel_left}
use Rattle.std.proofs.lemmas.Nat.{pow-add, pow_pos}
use Rattle.std.proofs.lemmas.Bool.{cases_eq, or_cases, or_left, or_right, eqb-true, ne_eqb, false≢true}
use Rattle.cxl_enc.specs.Codes.{third_of, bits_of, log2_of, is_ways}
use Rattle.cxl_enc.specs.Caps.{is_target_count}
use Rattle.cxl_enc.proofs.Ways.{few_ways, each_count, each_ways, some_ways}
use Rattle.cxl_enc.proofs.Numbers.{some_factor}
use Rattle.cxl_pick.specs.inner.Gifts.{has_gift}

pub ways_split : (p : ℕ) → is_ways p ≡ true → third_of p * 2 ^ bits_of p ≡ p
ways_split p is = each_ways (λ n. third_of n * 2 ^ bits_of n ≡ n) p is refl refl refl refl refl refl refl refl

pub count_split : (p : ℕ) → is_target_count p ≡ true → 2 ^ bits_of p ≡ p
count_split p is = each_count (λ n. 2 ^ bits_of n ≡ n) p is refl refl refl refl

pub some_count : (p : ℕ) → is_target_count p ≡ true → 0 < p
some_count p is = each_count (λ n. 0 < n) p is (omega arith) (omega arith) (omega arith) (omega arith)

-- ---- numbers for which a gift tells something

pub each_told : (P : ℕ → Type 0) (v : ℕ) → has_gift v ≡ true → P 1 → P 2 → P 4 → P 8 → P 16 → P v
each_told P v is p1 p2 p4 p8 p16 =
    elim (or_cases (is_target_count v) (v == 16) is) [
      | inl count ↦ each_count P v count p1 p2 p4 p8
      | inr last ↦ subst P (sym (eqb-true v 16 last)) p16
    ]

-- so many times as there are ports is one of them again, up to 16
pub told_product : (u v m : ℕ) → is_target_count u ≡ true → has_gift v ≡ true → u * v ≡ m → m ≤ 16 → has_gift m ≡ true
told_product u v m count is product few =
    subst (λ (n : ℕ). has_gift n ≡ true) product
    (each_count (λ n. n * v ≤ 16 → has_gift (n * v) ≡ true) u count
    (each_told (λ n. 1 * n ≤ 16 → has_gift (1 * n) ≡ true) v is (λ l. refl) (λ l. refl) (λ l. refl) (λ l. refl) (λ l. refl))
    (each_told (λ n. 2 * n ≤ 16 → has_gift (2 * n) ≡ true) v is (λ l. refl) (λ l. refl) (λ l. refl) (λ l. refl) (λ l. absurd (omega (arith, l))))
    (each_told (λ n. 4 * n ≤ 16 → has_gift (4 * n) ≡ true) v is (λ l. refl) (λ l. refl) (λ l. refl) (λ l. absurd (omega (arith, l))) (λ l. absurd (omega (arith, l))))
    (each_told (λ n. 8 * n ≤ 16 → has_gift (8 * n) ≡ true) v is (λ l. refl) (λ l. refl) (λ l. absurd (omega (arith, l))) (λ l. absurd (omega (arith, l))) (λ l. absurd (omega (arith, l))))
    (subst (λ (n : ℕ). n ≤ 16) (sym product) few))

-- ---- counts of ports that are tried

-- what the counts of ports pass, one of a list of them passes
pub count_tried : (test : ℕ → Bool) (p : ℕ) → is_target_count p ≡ true → test p ≡ true → list_any test (8 ∷ 4 ∷ 2 ∷ 1 ∷ []) ≡ true
count_tried test p is =
    each_count (λ n. test n ≡ true → list_any test (8 ∷ 4 ∷ 2 ∷ 1 ∷ []) ≡ true) p is
    (λ passes. or_right (test 8) (test 4 || (test 2 || (test 1 || false))) (or_right (test 4) (test 2 || (test 1 || false)) (or_right (test 2) (test 1 || false) (or_left (test 1) false passes))))
    (λ passes. or_right (test 8) (test 4 || (test 2 || (test 1 || false))) (or_right (test 4) (test 2 || (test 1 || false)) (or_left (test 2) (test 1 || false) passes)))
    (λ passes. or_right (test 8) (test 4 || (test 2 || (test 1 || false))) (or_left (test 4) (test 2 || (test 1 || false)) passes))
    (λ passes. or_left (test 8) (test 4 || (test 2 || (test 1 || false))) passes)

-- what is found among them is one of them
pub count_found : (u : ℕ) → list_any (λ n. n == u) (8 ∷ 4 ∷ 2 ∷ 1 ∷ []) ≡ true → is_target_count u ≡ true
count_found u is =
    elim (cases_eq u 1) [
      | inl e ↦ subst (λ (n : ℕ). is_target_count n ≡ true) (sym e) refl
      | inr n1 ↦ elim (cases_eq u 2) [
        | inl e ↦ subst (λ (n : ℕ). is_target_count n ≡ true) (sym e) refl
        | inr n2 ↦ elim (cases_eq u 4) [
          | inl e ↦ subst (λ (n : ℕ). is_target_count n ≡ true) (sym e) refl
          | inr n4 ↦ elim (cases_eq u 8) [
            | inl e ↦ subst (λ (n : ℕ). is_target_count n ≡ true) (sym e) refl
            | inr n8 ↦ absurd (false≢true (sym (none n1 n2 n4 n8) ∙ is))
          ]
        ]
      ]
    ]
  where
    none : (u ≡ 1 → ⊥) → (u ≡ 2 → ⊥) → (u ≡ 4 → ⊥) → (u ≡ 8 → ⊥) → list_any (λ n. n == u) (8 ∷ 4 ∷ 2 ∷ 1 ∷ []) ≡ false
    none n1 n2 n4 n8 =
        rw (ne_eqb 8 u (λ e. n8 (sym e)), ne_eqb 4 u (λ e. n4 (sym e)), ne_eqb 2 u (λ e. n2 (sym e)), ne_eqb 1 u (λ e. n1 (sym e))) refl

-- ---- exponents

log_power : (j : ℕ) → 2 ^ j ≤ 16 → log2_of (2 ^ j) ≡ j
log_power zero few = refl
log_power (suc zero) few = refl
log_power (suc (suc zero)) few = refl
log_power (suc (suc (suc zero))) few = refl
log_power (suc (suc (suc (suc zero)))) few = refl
log_power (suc (suc (suc (suc (suc j))))) few = absurd (past j few)
  where
    past : (j : ℕ) → 2 ^ suc (suc (suc (suc (suc j)))) ≤ 16 → ⊥
    past j few =
        let same : suc (suc (suc (suc (suc j)))) ≡ 5 + j = omega arith in
        let split : 2 ^ suc (suc (suc (suc (suc j)))) ≡ 32 * 2 ^ j = ap (λ (k : ℕ). 2 ^ k) same ∙ pow-add 2 5 j in
        let some : 0 < 2 ^ j = pow_pos j in
        omega (arith, few, split, some)

no_less : (p q n : ℕ) → p * q ≡ n → 0 < n → q ≤ n
no_less zero q n is some = absurd (omega (arith, is, some))
no_less (suc p) q n is some = let out : suc p * q ≡ q + p * q = suc-mul-to-add p q in omega (arith, is, out)
  where
    suc-mul-to-add : (p q : ℕ) → suc p * q ≡ q + p * q
    suc-mul-to-add p q = omega arith

-- where m times a times the ways w are n, and a is 2 ^ b, the exponent of n over m and the t of w is b and the k of w
pub exponent_is : (n m a b w : ℕ) → is_ways n ≡ true → is_ways w ≡ true → m * a * w ≡ n → 2 ^ b ≡ a → log2_of (n / (third_of w * m)) ≡ bits_of w + b
exponent_is n m a b w known ways is power =
    ap log2_of quotient ∙ log_power (bits_of w + b) low
  where
    split : third_of w * 2 ^ bits_of w ≡ w
    split = ways_split w ways

    joined : (t m a p : ℕ) → t * m * (p * a) ≡ m * a * (t * p)
    joined t m a p = omega arith

    whole : third_of w * m * 2 ^ (bits_of w + b) ≡ n
    whole =
        ap (λ (x : ℕ). third_of w * m * x) (pow-add 2 (bits_of w) b ∙ ap (λ (x : ℕ). 2 ^ bits_of w * x) power)
        ∙ joined (third_of w) m a (2 ^ bits_of w)
        ∙ ap (λ (x : ℕ). m * a * x) split
        ∙ is

    some : 0 < third_of w * m
    some = some_factor (third_of w * m) (2 ^ (bits_of w + b)) n whole (some_ways n known)

    quotient : n / (third_of w * m) ≡ 2 ^ (bits_of w + b)
    quotient = ap (λ (x : ℕ). x / (third_of w * m)) (sym whole) ∙ mul-div_cancel_left (2 ^ (bits_of w + b)) some

    low : 2 ^ (bits_of w + b) ≤ 16
    low =
        let most = few_ways n known in
        let less = no_less (third_of w * m) (2 ^ (bits_of w + b)) n whole (some_ways n known) in
        omega (arith, most, less)
