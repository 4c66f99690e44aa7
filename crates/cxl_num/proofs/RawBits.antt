-- The raw bits of an address, read and replaced.
use Rattle.std.proofs.Common.{◌≡◌, ℕ, ◌+◌, ◌-◌, ◌*◌, ◌/◌, ◌%◌, ◌^◌, ◌<◌, ◌≤◌, sym, ap, ◌∙◌, subst, arith}
use Rattle.std.proofs.Math.Pow.{pow_pos, pow_mono}
use Rattle.std.proofs.Math.Nat.{mod-lt, mod-eq_of_lt, div-lt_iff_lt-mul}
use Rattle.std.proofs.lemmas.Nat.{pow-add, shr-shr, shr_high, mod_low, shr_split, shr_below, shl_below}
use Rattle.cxl_num.specs.Maps.{with_raw_bits}
use Rattle.cxl_num.specs.Laws.{RawBitsAreReplaced}

-- the k bits of an address from its granularity on
abbrev pub raw_bits : ℕ → ℕ → ℕ → ℕ
raw_bits gran k h = h / 2 ^ (gran + 8) % 2 ^ k

module _ (gran k h : ℕ) where
  -- the address in three parts
  pub with-parts : (raw : ℕ) → with_raw_bits gran k h raw
      ≡ (h / 2 ^ (gran + 8 + k) * 2 ^ k + raw) * 2 ^ (gran + 8) + h % 2 ^ (gran + 8)
  with-parts raw =
      let split : h / 2 ^ (gran + 8 + k) * 2 ^ (gran + 8 + k) ≡ h / 2 ^ (gran + 8 + k) * (2 ^ (gran + 8) * 2 ^ k) =
      ap (λ (j : ℕ). h / 2 ^ (gran + 8 + k) * j) (pow-add 2 (gran + 8) k) in
      omega arith

  pub with-quotient : (raw : ℕ) → with_raw_bits gran k h raw / 2 ^ (gran + 8) ≡ h / 2 ^ (gran + 8 + k) * 2 ^ k + raw
  with-quotient raw =
      ap (λ (j : ℕ). j / 2 ^ (gran + 8)) (with-parts raw)
      ∙ shr_high (h / 2 ^ (gran + 8 + k) * 2 ^ k + raw) (gran + 8) (h % 2 ^ (gran + 8)) (mod-lt h (pow_pos (gran + 8)))

  pub with-rest : (raw : ℕ) → with_raw_bits gran k h raw % 2 ^ (gran + 8) ≡ h % 2 ^ (gran + 8)
  with-rest raw =
      ap (λ (j : ℕ). j % 2 ^ (gran + 8)) (with-parts raw)
      ∙ mod_low (h / 2 ^ (gran + 8 + k) * 2 ^ k + raw) (gran + 8) (h % 2 ^ (gran + 8)) (mod-lt h (pow_pos (gran + 8)))

  pub with-above : (raw : ℕ) → raw < 2 ^ k → with_raw_bits gran k h raw / 2 ^ (gran + 8 + k)
      ≡ h / 2 ^ (gran + 8 + k)
  with-above raw small =
      sym (shr-shr (with_raw_bits gran k h raw) (gran + 8) k)
      ∙ ap (λ (j : ℕ). j / 2 ^ k) (with-quotient raw)
      ∙ shr_high (h / 2 ^ (gran + 8 + k)) k raw small

  -- what was replaced does not matter
  pub with-with : (raw other : ℕ) → raw < 2 ^ k → with_raw_bits gran k (with_raw_bits gran k h raw) other
      ≡ with_raw_bits gran k h other
  with-with raw other small =
      ap (λ (j : ℕ). j * 2 ^ (gran + 8 + k) + other * 2 ^ (gran + 8) + with_raw_bits gran k h raw % 2 ^ (gran + 8)) (with-above raw small)
      ∙ ap (λ (j : ℕ). h / 2 ^ (gran + 8 + k) * 2 ^ (gran + 8 + k) + other * 2 ^ (gran + 8) + j) (with-rest raw)

  -- an address is its part above, its raw bits and its part below
  pub quotient-parts : h / 2 ^ (gran + 8) ≡ h / 2 ^ (gran + 8 + k) * 2 ^ k + raw_bits gran k h
  quotient-parts =
      sym (shr_split (h / 2 ^ (gran + 8)) k)
      ∙ ap (λ (j : ℕ). j * 2 ^ k + raw_bits gran k h) (shr-shr h (gran + 8) k)

  pub with-same : with_raw_bits gran k h (raw_bits gran k h) ≡ h
  with-same =
      with-parts (raw_bits gran k h)
      ∙ ap (λ (j : ℕ). j * 2 ^ (gran + 8) + h % 2 ^ (gran + 8)) (sym quotient-parts)
      ∙ shr_split h (gran + 8)

  pub raw_bits-below : raw_bits gran k h < 2 ^ k
  raw_bits-below = mod-lt (h / 2 ^ (gran + 8)) (pow_pos k)

  -- the code takes the raw bits off and puts the others on
  pub with-moved : (raw : ℕ) → with_raw_bits gran k h raw
      ≡ h - raw_bits gran k h * 2 ^ (gran + 8) + raw * 2 ^ (gran + 8)
  with-moved raw =
      let whole = with-same in
      let parts = with-parts (raw_bits gran k h) in
      let others = with-parts raw in
      omega arith

  -- an address stays below a limit above the raw bits
  pub with-below : (limit raw : ℕ) → gran + 8 + k ≤ limit → raw < 2 ^ k → h < 2 ^ limit
      → with_raw_bits gran k h raw < 2 ^ limit
  with-below limit raw within small below =
      let rest = limit - (gran + 8 + k) in
      let whole : rest + (gran + 8 + k) ≡ limit = omega arith in
      let whole_power : 2 ^ rest * 2 ^ (gran + 8 + k) ≡ 2 ^ limit =
      sym (pow-add 2 rest (gran + 8 + k)) ∙ ap (λ (j : ℕ). 2 ^ j) whole in
      let upper : h / 2 ^ (gran + 8 + k) < 2 ^ rest =
      shr_below h rest (gran + 8 + k) (subst (λ (j : ℕ). h < 2 ^ j) (sym whole) below) in
      let upper_too : with_raw_bits gran k h raw / 2 ^ (gran + 8 + k) < 2 ^ rest =
      subst (λ (j : ℕ). j < 2 ^ rest) (sym (with-above raw small)) upper in
      subst (λ (j : ℕ). with_raw_bits gran k h raw < j) whole_power ((div-lt_iff_lt-mul (pow_pos (gran + 8 + k))).0 upper_too)

  pub with-chunk : (raw : ℕ) → with_raw_bits gran k h raw / 2 ^ (gran + 8)
      ≡ h / 2 ^ (gran + 8) - h / 2 ^ (gran + 8) % 2 ^ k + raw
  with-chunk raw = omega (arith, with-quotient raw, quotient-parts)

pub raw_bits_replaced : RawBitsAreReplaced
raw_bits_replaced = record {
  chunk = λ gran k h raw. with-chunk gran k h raw;
  rest = λ gran k h raw. with-rest gran k h raw;
  own = λ gran k h. with-same gran k h;
  again = λ gran k h raw other small. with-with gran k h raw other small;
  below = λ gran k h limit raw within small fits. with-below gran k h limit raw within small fits;
}

-- ---- the step in the code

-- raw bits moved up by the shift are a whole word
pub raw_shift : (gran k raw : ℕ) → gran ≤ 6 → k ≤ 4 → raw < 2 ^ k
    → (raw * 2 ^ (gran + 8) % 2 ^ 64 ≡ raw * 2 ^ (gran + 8)) × (raw * 2 ^ (gran + 8) < 2 ^ 18)
raw_shift gran k raw known few small =
    let within : k + (gran + 8) ≤ 18 = omega arith in
    let below : raw * 2 ^ (gran + 8) < 2 ^ 18 =
    omega (arith, shl_below raw k (gran + 8) small, pow_mono {i = k + (gran + 8)} {j = 18} within) in
    let fits : raw * 2 ^ (gran + 8) < 2 ^ 64 = omega arith in
    (mod-eq_of_lt fits, below)

-- the word that the code makes
pub with-words : (gran k h raw : ℕ) → gran ≤ 6 → k ≤ 4 → raw < 2 ^ k
    → h - h / 2 ^ (gran + 8) % 2 ^ k * 2 ^ (gran + 8) % 2 ^ 64 + raw * 2 ^ (gran + 8) % 2 ^ 64 ≡ with_raw_bits gran k h raw
with-words gran k h raw known few small =
    let own_is = (raw_shift gran k (raw_bits gran k h) known few (raw_bits-below gran k h)).0 in
    let raw_is = (raw_shift gran k raw known few small).0 in
    ap (λ (j : ℕ). h - j + raw * 2 ^ (gran + 8) % 2 ^ 64) own_is
    ∙ ap (λ (j : ℕ). h - raw_bits gran k h * 2 ^ (gran + 8) + j) raw_is
    ∙ sym (with-moved gran k h raw)
