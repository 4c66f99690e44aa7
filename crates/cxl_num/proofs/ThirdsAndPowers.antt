-- Remainders modulo powers of two and modulo 3.
use Rattle.std.proofs.Common.{◌≡◌, ℕ, zero, suc, ◌+◌, ◌*◌, ◌/◌, ◌%◌, ◌^◌, ◌<◌, ◌≤◌, sym, ap, ◌∙◌, arith}
use Rattle.std.proofs.Math.Arith.{mod-mul}
use Rattle.std.proofs.Math.Nat.{mul_comm, mod-lt, mod-mod_of_dvd, dvd-mul_left}
use Rattle.std.proofs.lemmas.Nat.{one_shl, same_from_place}

-- two numbers below 3 * 2 ^ k are one where both remainders agree
pub same_from_remainders : (k x y : ℕ) → k ≤ 4 → x < 3 * 2 ^ k → y < 3 * 2 ^ k
    → x % 2 ^ k ≡ y % 2 ^ k → x % 3 ≡ y % 3 → x ≡ y
same_from_remainders zero x y few p q low thirds = omega arith
same_from_remainders (suc zero) x y few p q low thirds = omega arith
same_from_remainders (suc (suc zero)) x y few p q low thirds = omega arith
same_from_remainders (suc (suc (suc zero))) x y few p q low thirds = omega arith
same_from_remainders (suc (suc (suc (suc zero)))) x y few p q low thirds = omega arith
same_from_remainders (suc (suc (suc (suc (suc k))))) x y few p q low thirds = absurd (omega arith)

-- x is below 3 * 2 ^ k and has the two remainders
pub record Joins (bits k third x : ℕ) : Type 0 where
  pub below : x < 3 * 2 ^ k
  pub low : x % 2 ^ k ≡ bits
  pub thirds : x % 3 ≡ third

-- 2 ^ k is its own inverse modulo 3
Joins-turns : (bits k third : ℕ) → k ≤ 4 → bits < 2 ^ k → third < 3
    → Joins bits k third (bits + (third + 2 * bits) * 2 ^ k % 3 * 2 ^ k)
Joins-turns bits zero third few p q = record { below = omega arith; low = omega arith; thirds = omega arith }
Joins-turns bits (suc zero) third few p q = record { below = omega arith; low = omega arith; thirds = omega arith }
Joins-turns bits (suc (suc zero)) third few p q = record { below = omega arith; low = omega arith; thirds = omega arith }
Joins-turns bits (suc (suc (suc zero))) third few p q = record { below = omega arith; low = omega arith; thirds = omega arith }
Joins-turns bits (suc (suc (suc (suc zero)))) third few p q = record { below = omega arith; low = omega arith; thirds = omega arith }
Joins-turns bits (suc (suc (suc (suc (suc k))))) third few p q = absurd (omega arith)

-- the same with the power as a shift at 32 bits
pub Joins-shifted : (bits k third : ℕ) → k ≤ 4 → bits < 2 ^ k → third < 3
    → Joins bits k third (bits + (third + 2 * bits) * (1 * 2 ^ k % 2 ^ 32) % 3 * (1 * 2 ^ k % 2 ^ 32))
Joins-shifted bits k third few p q =
    let within : k < 32 = omega arith in
    let power = one_shl k 32 within in
    rw power (Joins-turns bits k third few p q)

-- a remainder modulo a multiple of a * b keeps the digit at a to the base b
pub digit_of_remainder : (c n a b q : ℕ) → 0 < a → 0 < b → n ≡ q * (a * b) → 0 < n
    → (c % n) / a % b ≡ c / a % b
digit_of_remainder c n a b q some_a some_b multiple some_n =
    let product : n ≡ q * (b * a) = multiple ∙ ap (λ (m : ℕ). q * m) (mul_comm a b) in
    let same : c % n % (b * a) ≡ c % (b * a) =
    ap (λ (m : ℕ). c % m % (b * a)) product ∙ mod-mod_of_dvd (b * a) c (dvd-mul_left (b * a) q) in
    let digits = sym (mod-mul (c % n) some_b some_a) ∙ same ∙ mod-mul c some_b some_a in
    (same_from_place (c % n / a % b) (c % n % a) (c / a % b) (c % a) a (mod-lt (c % n) some_a) (mod-lt c some_a) digits).0
