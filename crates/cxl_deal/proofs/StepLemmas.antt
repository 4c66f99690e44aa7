-- What the steps of dealing compute.
use Rattle.std.proofs.Common.{◌≡◌, ℕ, ◌+◌, ◌-◌, ◌*◌, ◌/◌, ◌%◌, ◌^◌, ◌<◌, ◌≤◌, sym, ap, ◌∙◌, arith}
use Rattle.std.specs.Prelude.{Bool}
use Rattle.std.proofs.Math.Pow.{pow_pos}
use Rattle.std.proofs.Math.Nat.{mod-lt, mod-eq_of_lt, mod-eq-sub-div-mul, div-le_self, mul-le-mul_right}
use Rattle.std.proofs.lemmas.Nat.{mul-le, shr_split}
use Rattle.cxl_enc.specs.Limits.{address_limit}
use Rattle.cxl_num.specs.Interleave.{ways_by, chunk_size}
use Rattle.cxl_deal.proofs.Ways.{chunk_size-pow}

-- ---- dealing

-- the place in the turn is what is left
pub place-mod : (chunk ways turn w : ℕ) → turn ≡ chunk / ways → w ≡ ways → chunk - turn * w ≡ chunk % ways
place-mod chunk ways turn w turn-is w-is =
    ap (λ (j : ℕ). chunk - j * w) turn-is
    ∙ ap (λ (j : ℕ). chunk - chunk / ways * j) w-is
    ∙ sym (mod-eq-sub-div-mul chunk ways)

-- a turn moved up by the shift is a whole word
pub turn_fits : (o e ways : ℕ) → o < address_limit → o / 2 ^ e / ways * 2 ^ e % 2 ^ 64 ≡ o / 2 ^ e / ways * 2 ^ e
turn_fits o e ways small =
    let less = mul-le-mul_right (2 ^ e) (div-le_self (o / 2 ^ e) ways) in
    let below : o / 2 ^ e / ways * 2 ^ e < 2 ^ 64 = omega (arith, shr_split o e) in
    mod-eq_of_lt below

-- ---- gathering

-- the last chunk of the turn ends below the limit
pub record Fitting (turn ways size slot rest : ℕ) : Type 0 where
  pub product : turn * ways < address_limit
  pub chunk : turn * ways + slot < address_limit
  pub shifted : (turn * ways + slot) * size < address_limit
  pub whole : (turn * ways + slot) * size + rest < address_limit

pub fitting : (turn ways size slot rest : ℕ) → (turn + 1) * ways * size ≤ address_limit → slot < ways → rest < size
    → Fitting turn ways size slot rest
fitting turn ways size slot rest fits slot_below rest_below =
    let last : turn * ways + slot + 1 ≤ (turn + 1) * ways = omega arith in
    let ends : (turn * ways + slot + 1) * size ≤ (turn + 1) * ways * size = mul-le-mul_right size last in
    let one : turn * ways + slot + 1 ≤ (turn * ways + slot + 1) * size =
    omega (arith, mul-le (turn * ways + slot + 1) 1 (turn * ways + slot + 1) size (omega arith) (omega arith)) in
    record { product = omega arith; chunk = omega arith; shifted = omega arith; whole = omega arith }

pub gather_fits : (third : Bool) (bits gran slot offset : ℕ) → slot < ways_by third bits
    → (offset / chunk_size gran + 1) * ways_by third bits * chunk_size gran ≤ address_limit
    → Fitting (offset / 2 ^ (gran + 8)) (ways_by third bits) (2 ^ (gran + 8)) slot (offset % 2 ^ (gran + 8))
gather_fits third bits gran slot offset slot_below fits =
    fitting (offset / 2 ^ (gran + 8)) (ways_by third bits) (2 ^ (gran + 8)) slot (offset % 2 ^ (gran + 8))
    (rw (chunk_size-pow gran) at fits) slot_below (mod-lt offset (pow_pos (gran + 8)))
