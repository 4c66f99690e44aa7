-- Turns by powers of two.
use Rattle.std.proofs.Common.{◌≡◌, ℕ, ◌+◌, ◌*◌, ◌/◌, ◌%◌, ◌^◌, ◌≤◌, refl, sym, ap, ◌∙◌, arith}
use Rattle.std.proofs.lemmas.Nat.{pow-add, shr_split, mul-le}
use Rattle.std.proofs.Math.Nat.{mul_comm, div-div-eq-div-mul, div-le_self}

module _ (offset shift bits third ways : ℕ) (product : ways ≡ third * 2 ^ bits) where
  -- a shift over the granularity and the powers of two of the ways, and then the division by three, is one division
  pub turn_is : offset / 2 ^ (shift + bits) / third ≡ offset / (2 ^ shift * ways)
  turn_is =
      let power : 2 ^ (shift + bits) ≡ 2 ^ shift * 2 ^ bits = pow-add 2 shift bits in
      let whole : 2 ^ shift * 2 ^ bits * third ≡ 2 ^ shift * (third * 2 ^ bits) = omega arith in
      div-div-eq-div-mul offset (2 ^ (shift + bits)) third
      ∙ ap (λ (n : ℕ). offset / n) (ap (λ (n : ℕ). n * third) power ∙ whole ∙ ap (λ (n : ℕ). 2 ^ shift * n) (sym product))

  -- the place among a share's bytes is at most that among all
  pub turn_small : offset / 2 ^ (shift + bits) / third * 2 ^ shift + offset % 2 ^ shift ≤ offset
  turn_small =
      let less : offset / 2 ^ (shift + bits) / third ≤ offset / 2 ^ shift =
      rw (turn_is, ← div-div-eq-div-mul offset (2 ^ shift) ways) (div-le_self (offset / 2 ^ shift) ways) in
      let times = mul-le (offset / 2 ^ (shift + bits) / third) (2 ^ shift) (offset / 2 ^ shift) (2 ^ shift) less (omega arith) in
      omega (arith, shr_split offset shift)

-- a granularity of 256 bytes times a power of two is a power of two
pub gran_is : (gran : ℕ) → 256 * 2 ^ gran ≡ 2 ^ (gran + 8)
gran_is gran = mul_comm 256 (2 ^ gran) ∙ sym (pow-add 2 gran 8)

module _ (offset gran bits third ways bytes turn : ℕ) (product : ways ≡ third * 2 ^ bits) (bytes_are : bytes ≡ 256 * 2 ^ gran) (turn_are : turn ≡ offset / 2 ^ (gran + 8 + bits) / third) where
  -- the bytes before and in a turn are at most those of the offset
  pub share_small : turn * 2 ^ (gran + 8) + offset % bytes ≤ offset
  share_small = rw (bytes_are, gran_is gran, turn_are) (turn_small offset (gran + 8) bits third ways product)

  pub turns_are : turn * 2 ^ (gran + 8) ≡ offset / (bytes * ways) * bytes
  turns_are = rw (bytes_are, gran_is gran, turn_are, turn_is offset (gran + 8) bits third ways product) refl
