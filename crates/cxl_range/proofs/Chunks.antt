-- The chunks with bytes of a range, and where each of them begins and ends.
use Rattle.std.proofs.Common.{◌≡◌, ℕ, ◌+◌, ◌-◌, ◌*◌, ◌/◌, ◌%◌, ◌^◌, ◌<◌, ◌≤◌, ap, ◌∙◌, arith}
use Rattle.std.proofs.Math.Nat.{mul-le-mul_right, div-mul-le_self, lt-div-mul-add}
use Rattle.std.proofs.Math.Pow.{pow_mono}
use Rattle.std.proofs.lemmas.Nat.{mod-mul-add}
use Rattle.cxl_num.specs.Interleave.{chunk_size}

pub small_chunk : (gran : ℕ) → gran ≤ 6 → chunk_size gran ≤ 16384
small_chunk gran known = let few : 2 ^ gran ≤ 2 ^ 6 = pow_mono known in omega (arith, few)

-- a chunk that has a byte of the range from h up to end
pub record TouchedAt (base g h end chunk : ℕ) : Type 0 where
  pub begins : base + chunk * g < end
  pub past : h < base + (chunk + 1) * g
  pub one : chunk * g + g ≡ (chunk + 1) * g

pub touched_at : (base g h end chunk : ℕ) → 0 < g → base ≤ h → h < end → (h - base) / g ≤ chunk → chunk ≤ (end - 1 - base) / g → TouchedAt base g h end chunk
touched_at base g h end chunk some from any first last =
    let one : chunk * g + g ≡ (chunk + 1) * g = grind arith in
    let at : chunk * g ≤ (end - 1 - base) / g * g = mul-le-mul_right g last in
    let below = div-mul-le_self (end - 1 - base) g in
    let more : (h - base) / g * g ≤ chunk * g = mul-le-mul_right g first in
    let past = lt-div-mul-add {a = h - base} {b = g} some in
    record {
      begins = omega (arith, at, below, from, any);
      past = omega (arith, more, past, one, from);
      one = one;
    }

-- from an address of a chunk up to no more than its end, bytes are as far from its start as the addresses
pub within_chunk : (base g chunk x n : ℕ) → 0 < g → base + chunk * g ≤ x → x + n ≤ base + (chunk + 1) * g → 0 < n → (x - base) % g + n ≤ g
within_chunk base g chunk x n some from ends any =
    let d : ℕ = x - (base + chunk * g) in
    let one : chunk * g + g ≡ (chunk + 1) * g = grind arith in
    let below : d < g = omega (arith, from, ends, any, one) in
    let along : x - base ≡ chunk * g + d = omega (arith, from) in
    let rest : (x - base) % g ≡ d = ap (λ (j : ℕ). j % g) along ∙ mod-mul-add chunk g d below in
    omega (arith, rest, from, ends, one)
