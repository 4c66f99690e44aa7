-- Remainders that tell a slot.
use Rattle.std.proofs.Common.{◌≡◌, ℕ, ◌+◌, ◌*◌, ◌/◌, ◌%◌, ◌^◌, ◌<◌, ◌≤◌, Bool, true, false, not, ◌&&◌, ◌||◌, refl, sym, ap, ◌∙◌, subst, inl, inr, arith}
use Rattle.std.specs.Prelude.{◌==◌, IsTrue}
use Rattle.std.proofs.Math.Nat.{mul_comm, mul_assoc, mul-add, mul-le-mul_left, mul-add-mod_self_left, mul-add-div, mod-eq_of_lt, mod-lt, div-add-mod, div-lt_iff_lt-mul, mul-mod_right, mul-div_cancel_left, one-mul}
use Rattle.std.proofs.lemmas.Bool.{eqb-true, eq-eqb, or_cases, and_parts, false≢true}
use Rattle.cxl_enc.specs.Codes.{is_ways, third_of, bits_of}
use Rattle.cxl_enc.proofs.Ways.{each_ways, some_ways}

-- ---- remainders by a product

pub digit_below : (p q t : ℕ) → q < t → (low : ℕ) → low < p → p * q + low < p * t
digit_below p q t less low below =
    let up : p * (q + 1) ≤ p * t = mul-le-mul_left p (omega arith) in
    let step : p * (q + 1) ≡ p * q + p * 1 = mul-add p q 1 in
    let one : p * 1 ≡ p = mul_comm p 1 ∙ one-mul p in
    omega (arith, up, step, one)

-- the remainder by p * t is made of the remainder by p and of that of the quotient by t
pub remainder_by : (p t x : ℕ) → 0 < p → 0 < t → x % (p * t) ≡ p * (x / p % t) + x % p
remainder_by p t x some_p some_t =
    let low : ℕ = x % p in
    let q : ℕ = x / p in
    let digit : ℕ = q % t in
    let whole : x ≡ p * q + low = sym (div-add-mod x p) in
    let upper : q ≡ t * (q / t) + digit = sym (div-add-mod q t) in
    let spread : p * q ≡ p * t * (q / t) + p * digit =
    ap (λ (y : ℕ). p * y) upper ∙ mul-add p (t * (q / t)) digit ∙ ap (λ (y : ℕ). y + p * digit) (sym (mul_assoc p t (q / t))) in
    let sum : x ≡ p * t * (q / t) + (p * digit + low) = omega (arith, whole, spread) in
    ap (λ (y : ℕ). y % (p * t)) sum ∙ mul-add-mod_self_left (p * t) (q / t) (p * digit + low)
    ∙ mod-eq_of_lt (digit_below p digit t (mod-lt q some_t) low (mod-lt x some_p))

pub agree_by_product : (p t x y : ℕ) → 0 < p → 0 < t → x % p ≡ y % p → x / p % t ≡ y / p % t → x % (p * t) ≡ y % (p * t)
agree_by_product p t x y some_p some_t low high =
    remainder_by p t x some_p some_t ∙ ap (λ (z : ℕ). p * z + x % p) high ∙ ap (λ (z : ℕ). p * (y / p % t) + z) low ∙ sym (remainder_by p t y some_p some_t)

-- ---- positions

-- the low digit and the upper one of x + k * y
pub position_parts : (k x y : ℕ) → x < k → ((x + k * y) % k ≡ x) × ((x + k * y) / k ≡ y)
position_parts k x y below =
    let some : 0 < k = omega arith in
    let turned : x + k * y ≡ k * y + x = omega arith in
    let none : x / k ≡ 0 = quotient_none x k below in (
      ap (λ (z : ℕ). z % k) turned ∙ mul-add-mod_self_left k y x ∙ mod-eq_of_lt below,
      ap (λ (z : ℕ). z / k) turned ∙ mul-add-div some y x ∙ ap (λ (z : ℕ). y + z) none ∙ omega arith,
    )
  where
    quotient_none : (x k : ℕ) → x < k → x / k ≡ 0
    quotient_none x k less =
        let at_most = (div-lt_iff_lt-mul {k = k} {x = x} {y = 1} (omega arith)).1 (subst (λ (z : ℕ). x < z) (sym (one-mul k)) less) in
        omega arith

-- ---- the ways of windows

-- ways are a power of two, times three or not
pub ways_are : (w : ℕ) → IsTrue (is_ways w) → 2 ^ bits_of w * third_of w ≡ w
ways_are w known = each_ways (λ n. 2 ^ bits_of n * third_of n ≡ n) w known refl refl refl refl refl refl refl refl

-- the ways that a window of three times a power of two leaves to the ports
abbrev leaves_few : ℕ → ℕ → Bool
leaves_few a b = not (b % a == 0) || (third_of a == 1) || ((third_of a == 3) && ((b / a == 1) || (b / a == 2) || (b / a == 4)))

few_left : (a b : ℕ) → IsTrue (is_ways a) → IsTrue (is_ways b) → leaves_few a b ≡ true
few_left a b a_known b_known =
    each_ways (λ x. leaves_few x b ≡ true) a a_known
    (each_ways (λ y. leaves_few 1 y ≡ true) b b_known refl refl refl refl refl refl refl refl)
    (each_ways (λ y. leaves_few 2 y ≡ true) b b_known refl refl refl refl refl refl refl refl)
    (each_ways (λ y. leaves_few 4 y ≡ true) b b_known refl refl refl refl refl refl refl refl)
    (each_ways (λ y. leaves_few 8 y ≡ true) b b_known refl refl refl refl refl refl refl refl)
    (each_ways (λ y. leaves_few 16 y ≡ true) b b_known refl refl refl refl refl refl refl refl)
    (each_ways (λ y. leaves_few 3 y ≡ true) b b_known refl refl refl refl refl refl refl refl)
    (each_ways (λ y. leaves_few 6 y ≡ true) b b_known refl refl refl refl refl refl refl refl)
    (each_ways (λ y. leaves_few 12 y ≡ true) b b_known refl refl refl refl refl refl refl refl)

-- ---- a number from its remainders by t and by times

thirds_and_ones : (x y : ℕ) → x < 3 → y < 3 → x % 3 ≡ y % 3 → x ≡ y
thirds_and_ones x y x_below y_below thirds = omega arith

thirds_and_twos : (x y : ℕ) → x < 6 → y < 6 → x % 3 ≡ y % 3 → x % 2 ≡ y % 2 → x ≡ y
thirds_and_twos x y x_below y_below thirds twos = omega arith

thirds_and_fours : (x y : ℕ) → x < 12 → y < 12 → x % 3 ≡ y % 3 → x % 4 ≡ y % 4 → x ≡ y
thirds_and_fours x y x_below y_below thirds fours = omega arith

-- what makes a number below t * n known by its remainders by t and by n
abbrev Tells : ℕ → ℕ → Type 0
Tells t n = (x y : ℕ) → x < t * n → y < t * n → x % t ≡ y % t → x % n ≡ y % n → x ≡ y

tells_alone : (n : ℕ) → Tells 1 n
tells_alone n x y x_below y_below ones rest =
    let x_less : x < n = subst (λ (m : ℕ). x < m) (one-mul n) x_below in
    let y_less : y < n = subst (λ (m : ℕ). y < m) (one-mul n) y_below in
    sym (mod-eq_of_lt x_less) ∙ rest ∙ mod-eq_of_lt y_less

tells_three : (n : ℕ) → ((n == 1) || (n == 2) || (n == 4)) ≡ true → Tells 3 n
tells_three n few =
    elim (or_cases ((n == 1) || (n == 2)) (n == 4) few) [
      | inr four ↦ subst (Tells 3) (sym (eqb-true n 4 four)) (λ x y x_below y_below thirds fours. thirds_and_fours x y x_below y_below thirds fours)
      | inl fewer ↦ elim (or_cases (n == 1) (n == 2) fewer) [
        | inl one ↦ subst (Tells 3) (sym (eqb-true n 1 one)) (λ x y x_below y_below thirds ones. thirds_and_ones x y x_below y_below thirds)
        | inr two ↦ subst (Tells 3) (sym (eqb-true n 2 two)) (λ x y x_below y_below thirds twos. thirds_and_twos x y x_below y_below thirds twos)
      ]
    ]

-- the ways that ports have beside a window's third
pub remainders_tell : (a b n : ℕ) → IsTrue (is_ways a) → IsTrue (is_ways b) → b ≡ a * n → Tells (third_of a) n
remainders_tell a b n a_known b_known product =
    elim (or_cases (third_of a == 1) ((third_of a == 3) && ((b / a == 1) || (b / a == 2) || (b / a == 4))) either) [
      | inl alone ↦ subst (λ (t : ℕ). Tells t n) (sym (eqb-true (third_of a) 1 alone)) (tells_alone n)
      | inr three ↦
          let parts = and_parts (third_of a == 3) ((b / a == 1) || (b / a == 2) || (b / a == 4)) three in
          subst (λ (t : ℕ). Tells t n) (sym (eqb-true (third_of a) 3 parts.0))
          (tells_three n (sym (ap (λ (m : ℕ). (m == 1) || (m == 2) || (m == 4)) quotient) ∙ parts.1))
    ]
  where
    dropped : (p q r : Bool) → p ≡ true → (not p || q || r) ≡ true → (q || r) ≡ true
    dropped true q r is any = any
    dropped false q r is any = absurd (false≢true is)

    quotient : b / a ≡ n
    quotient = ap (λ (m : ℕ). m / a) product ∙ mul-div_cancel_left n (some_ways a a_known)

    divides : (b % a == 0) ≡ true
    divides = eq-eqb (b % a) 0 (ap (λ (m : ℕ). m % a) product ∙ mul-mod_right a n)

    either : ((third_of a == 1) || ((third_of a == 3) && ((b / a == 1) || (b / a == 2) || (b / a == 4)))) ≡ true
    either = dropped (b % a == 0) (third_of a == 1) ((third_of a == 3) && ((b / a == 1) || (b / a == 2) || (b / a == 4))) divides (few_left a b a_known b_known)
