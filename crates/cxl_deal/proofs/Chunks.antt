-- Chunks counted from an aligned base, and their numbers by digits.
use Rattle.std.proofs.Common.{◌≡◌, ℕ, ◌+◌, ◌-◌, ◌*◌, ◌/◌, ◌%◌, ◌^◌, ◌<◌, ◌≤◌, sym, ap, ◌∙◌, subst, arith}
use Rattle.std.proofs.Math.Arith.{mod-mul}
use Rattle.std.proofs.Math.Pow.{pow_pos}
use Rattle.std.proofs.Math.Nat.{mod-lt, mul_comm, div-div-eq-div-mul, add-mul-div_right, add-mul-mod_self_right}
use Rattle.std.proofs.lemmas.Nat.{shr_split, mod-pow-add, div-mul-add, mod-mul-add, mul-add-lt}
use Rattle.cxl_enc.specs.Limits.{unit}
use Rattle.cxl_num.specs.Maps.{with_raw_bits}

-- ---- an aligned base

-- a multiple of 256 MiB is one of each lower power
aligned-parts : (base n : ℕ) → base % unit ≡ 0 → n ≤ 28 → base ≡ base / 2 ^ n * 2 ^ n
aligned-parts base n aligned few =
    let rest = 28 - n in
    let whole : 28 ≡ rest + n = omega arith in
    let low : base % unit ≡ (base / 2 ^ n % 2 ^ rest) * 2 ^ n + base % 2 ^ n =
    ap (λ (j : ℕ). base % 2 ^ j) whole ∙ mod-pow-add base rest n in
    omega (arith, shr_split base n)

module _ (base n o : ℕ) (aligned : base % unit ≡ 0) (few : n ≤ 28) where
  pub aligned-div : (base + o) / 2 ^ n ≡ base / 2 ^ n + o / 2 ^ n
  aligned-div =
      let parts = aligned-parts base n aligned few in
      let turned : base + o ≡ o + base / 2 ^ n * 2 ^ n = omega arith in
      ap (λ (j : ℕ). j / 2 ^ n) turned ∙ add-mul-div_right o (base / 2 ^ n) (pow_pos n) ∙ omega arith

  pub aligned-mod : (base + o) % 2 ^ n ≡ o % 2 ^ n
  aligned-mod =
      let parts = aligned-parts base n aligned few in
      let turned : base + o ≡ o + base / 2 ^ n * 2 ^ n = omega arith in
      ap (λ (j : ℕ). j % 2 ^ n) turned ∙ add-mul-mod_self_right o (base / 2 ^ n) (2 ^ n)

-- the raw bits of an address are those of its distance from the base
pub with-base : (base gran k o raw : ℕ) → base % unit ≡ 0 → gran + 8 + k ≤ 28
    → with_raw_bits gran k (base + o) raw ≡ base + with_raw_bits gran k o raw
with-base base gran k o raw aligned few =
    let high = gran + 8 + k in
    let parts = aligned-parts base high aligned few in
    let moved : (base / 2 ^ high + o / 2 ^ high) * 2 ^ high ≡ base + o / 2 ^ high * 2 ^ high = omega arith in
    ap (λ (j : ℕ). j * 2 ^ high + raw * 2 ^ (gran + 8) + (base + o) % 2 ^ (gran + 8)) (aligned-div base high o aligned few)
    ∙ ap (λ (j : ℕ). (base / 2 ^ high + o / 2 ^ high) * 2 ^ high + raw * 2 ^ (gran + 8) + j) (aligned-mod base (gran + 8) o aligned (omega arith))
    ∙ omega arith

-- ---- chunk numbers by digits

module _ (c k v raw : ℕ) (some : 0 < v) (small : raw < 2 ^ k) where
  -- the low digits of a chunk number replaced
  replaced : c - c % 2 ^ k + raw ≡ c / 2 ^ k * 2 ^ k + raw
  replaced = omega (arith, shr_split c k)

  same_upper : (c - c % 2 ^ k + raw) / 2 ^ k ≡ c / 2 ^ k
  same_upper = ap (λ (j : ℕ). j / 2 ^ k) replaced ∙ div-mul-add (c / 2 ^ k) (2 ^ k) raw small

  new_lower : (c - c % 2 ^ k + raw) % 2 ^ k ≡ raw
  new_lower = ap (λ (j : ℕ). j % 2 ^ k) replaced ∙ mod-mul-add (c / 2 ^ k) (2 ^ k) raw small

  -- its turn stays
  pub replaced-div : (c - c % 2 ^ k + raw) / (2 ^ k * v) ≡ c / (2 ^ k * v)
  replaced-div =
      sym (div-div-eq-div-mul (c - c % 2 ^ k + raw) (2 ^ k) v)
      ∙ ap (λ (j : ℕ). j / v) same_upper
      ∙ div-div-eq-div-mul c (2 ^ k) v

  -- its place has the same digits replaced
  pub replaced-mod : (c - c % 2 ^ k + raw) % (v * 2 ^ k) ≡ c % (v * 2 ^ k) - c % 2 ^ k + raw
  replaced-mod =
      let before = mod-mul c some (pow_pos k) in
      mod-mul (c - c % 2 ^ k + raw) some (pow_pos k)
      ∙ ap (λ (j : ℕ). j % v * 2 ^ k + (c - c % 2 ^ k + raw) % 2 ^ k) same_upper
      ∙ ap (λ (j : ℕ). c / 2 ^ k % v * 2 ^ k + j) new_lower
      ∙ omega arith

  pub low_within : c % 2 ^ k ≤ c % (v * 2 ^ k)
  low_within =
      let before = mod-mul c some (pow_pos k) in
      omega arith

  -- the digits of the place with the low ones replaced
  place_digits : c % (v * 2 ^ k) - c % 2 ^ k + raw ≡ c / 2 ^ k % v * 2 ^ k + raw
  place_digits =
      let before = mod-mul c some (pow_pos k) in
      omega arith

  pub place-low : (c % (v * 2 ^ k) - c % 2 ^ k + raw) % 2 ^ k ≡ raw
  place-low = ap (λ (j : ℕ). j % 2 ^ k) place_digits ∙ mod-mul-add (c / 2 ^ k % v) (2 ^ k) raw small

  pub place-upper : (c % (v * 2 ^ k) - c % 2 ^ k + raw) / 2 ^ k ≡ c / 2 ^ k % v
  place-upper = ap (λ (j : ℕ). j / 2 ^ k) place_digits ∙ div-mul-add (c / 2 ^ k % v) (2 ^ k) raw small

  pub place_below : c % (v * 2 ^ k) - c % 2 ^ k + raw < v * 2 ^ k
  place_below =
      let place : c / 2 ^ k % v * 2 ^ k + raw < 2 ^ k * v =
      mul-add-lt (c / 2 ^ k % v) (2 ^ k) raw v (mod-lt (c / 2 ^ k) some) small in
      let turned : c / 2 ^ k % v * 2 ^ k + raw < v * 2 ^ k =
      subst (λ (j : ℕ). c / 2 ^ k % v * 2 ^ k + raw < j) (mul_comm (2 ^ k) v) place in
      subst (λ (j : ℕ). j < v * 2 ^ k) (sym place_digits) (turned)
