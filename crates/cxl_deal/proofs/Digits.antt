-- The digits of a slot, and what a window and the ports below the root find of an address.
use Rattle.std.proofs.Common.{◌≡◌, ℕ, zero, suc, ◌+◌, ◌-◌, ◌*◌, ◌/◌, ◌%◌, ◌^◌, ◌<◌, ◌≤◌, refl, sym, ap, ◌∙◌, subst, arith}
use Rattle.std.specs.Prelude.{Bool, true, false, if◌then◌else◌, List}
use Rattle.std.proofs.Math.Pow.{pow_pos}
use Rattle.std.proofs.Math.Nat.{mul_comm, mod-lt, add-mul-div_right, add-mul-mod_self_right, div-div-eq-div-mul, mod-mod_of_dvd, dvd-mul_left}
use Rattle.std.proofs.lemmas.Nat.{pow-add, div-add-mod'}
use Rattle.cxl_enc.specs.Limits.{unit}
use Rattle.cxl_num.specs.Maps.{parities}
use Rattle.cxl_num.specs.Interleave.{chunk_size, chunk_from, factor_of, ways_by, low_by}
use Rattle.cxl_num.specs.Laws.{ParitiesTellRawBits}
use Rattle.cxl_deal.specs.Weaves.{WeaveFields, IsWeave, weave_ways, dealt_chunk, dealt_low, dealt_slot, position_from}
use Rattle.cxl_deal.proofs.Ways.{ways_by-pos, ways-parts, chunk_size-pow}
use Rattle.cxl_deal.proofs.Chunks.{place-low, place-upper, place_below}
use Rattle.cxl_deal.proofs.Swapping.{root-few}

-- ---- whole turns in front

-- n whole turns of t * p chunks of g bytes in front of an address
module _ (o d g p t n : ℕ) (some_bytes : 0 < g) (some : 0 < p) (turns : d ≡ n * t * p * g) where
  chunk_behind : (o + d) / g ≡ o / g + n * t * p
  chunk_behind = ap (λ (j : ℕ). (o + j) / g) turns ∙ add-mul-div_right o (n * t * p) some_bytes

  low_behind : (o + d) / g % p ≡ o / g % p
  low_behind = ap (λ (j : ℕ). j % p) chunk_behind ∙ add-mul-mod_self_right (o / g) (n * t) p

  third_behind : (o + d) / g / p % t ≡ o / g / p % t
  third_behind =
      ap (λ (j : ℕ). j / p % t) chunk_behind
      ∙ ap (λ (j : ℕ). j % t) (add-mul-div_right (o / g) (n * t) some)
      ∙ add-mul-mod_self_right (o / g / p) n t

-- multiples of t times 256 MiB are whole turns
whole_turns : (d t gran k : ℕ) → d % (t * unit) ≡ 0 → gran + 8 + k ≤ 28
    → d ≡ d / (t * unit) * 2 ^ (28 - (gran + 8 + k)) * t * 2 ^ k * 2 ^ (gran + 8)
whole_turns d t gran k none few =
    let rest : ℕ = 28 - (gran + 8 + k) in
    let places : 28 ≡ rest + (k + (gran + 8)) = omega arith in
    let power : unit ≡ 2 ^ rest * (2 ^ k * 2 ^ (gran + 8)) =
    ap (λ (j : ℕ). 2 ^ j) places ∙ pow-add 2 rest (k + (gran + 8)) ∙ ap (λ (j : ℕ). 2 ^ rest * j) (pow-add 2 k (gran + 8)) in
    let m : ℕ = d / (t * unit) in
    let whole : d ≡ m * (t * unit) = omega (arith, div-add-mod' d (t * unit), none) in
    whole ∙ ap (λ (j : ℕ). m * (t * j)) power ∙ regroup m t (2 ^ rest) (2 ^ k) (2 ^ (gran + 8))
  where
    regroup : (m t r p g : ℕ) → m * (t * (r * (p * g))) ≡ m * r * t * p * g
    regroup m t r p g = omega arith

-- ---- a slot's digits

module _ (told : ParitiesTellRawBits) (w : WeaveFields) (h : ℕ) where
  low_of : (xor : Bool) → (if xor then parities w.root_bits w.maps h else dealt_chunk w h % 2 ^ w.root_bits) < 2 ^ w.root_bits
  low_of true = told.below w.root_bits h w.maps
  low_of false = mod-lt (dealt_chunk w h) (pow_pos w.root_bits)

  pub dealt_low-below : dealt_low w h < 2 ^ w.root_bits
  dealt_low-below = low_of w.xor

  -- a slot by its digits
  pub dealt_slot-low : dealt_slot w h % 2 ^ w.root_bits ≡ dealt_low w h
  dealt_slot-low = rw (ways-parts w.third w.root_bits w.low_bits)
      (place-low (dealt_chunk w h) w.root_bits (ways_by w.third w.low_bits) (dealt_low w h) (ways_by-pos w.third w.low_bits) dealt_low-below)

  pub dealt_slot-upper : dealt_slot w h / 2 ^ w.root_bits
      ≡ dealt_chunk w h / 2 ^ w.root_bits % ways_by w.third w.low_bits
  dealt_slot-upper = rw (ways-parts w.third w.root_bits w.low_bits)
      (place-upper (dealt_chunk w h) w.root_bits (ways_by w.third w.low_bits) (dealt_low w h) (ways_by-pos w.third w.low_bits) dealt_low-below)

  -- slots are below the ways
  pub dealt_slot-below : dealt_slot w h < weave_ways w
  dealt_slot-below = rw (ways-parts w.third w.root_bits w.low_bits)
      (place_below (dealt_chunk w h) w.root_bits (ways_by w.third w.low_bits) (dealt_low w h) (ways_by-pos w.third w.low_bits) dealt_low-below)

-- a remainder modulo a multiple keeps the remainder
mod_of_multiple : (c t m : ℕ) → c % (t * m) % t ≡ c % t
mod_of_multiple c t m = ap (λ (j : ℕ). c % j % t) (mul_comm t m) ∙ mod-mod_of_dvd t c (dvd-mul_left t m)

low_same : (xor : Bool) (k : ℕ) (maps : List ℕ) (h a b : ℕ) → a % 2 ^ k ≡ b % 2 ^ k → low_by xor k maps h a ≡ low_by xor k maps h b
low_same true k maps h a b same = refl
low_same false k maps h a b same = same

module _ (told : ParitiesTellRawBits) (w : WeaveFields) (h : ℕ) where
  pub position_kept : (base : ℕ) → IsWeave w → base ≤ w.base → (w.base - base) % (factor_of w.third * unit) ≡ 0 → w.base ≤ h
      → position_from base w h ≡ dealt_slot w h % 2 ^ w.root_bits + 2 ^ w.root_bits * (dealt_slot w h / 2 ^ w.root_bits % factor_of w.third)
  position_kept base is before none from =
      let few = root-few w is in
      let known = is.gran_known in
      let t : ℕ = factor_of w.third in
      let p : ℕ = 2 ^ w.root_bits in
      let g : ℕ = 2 ^ (w.gran + 8) in
      let n : ℕ = (w.base - base) / (t * unit) * 2 ^ (28 - (w.gran + 8 + w.root_bits)) in
      let places : w.gran + 8 + w.root_bits ≤ 28 = omega (arith, few, known) in
      let turns = whole_turns (w.base - base) t w.gran w.root_bits none places in
      let along : h - base ≡ (h - w.base) + (w.base - base) = omega (arith, before, from) in
      let in_window : chunk_from base w.gran h ≡ (h - w.base + (w.base - base)) / g =
      ap (λ (j : ℕ). (h - base) / j) (chunk_size-pow w.gran) ∙ ap (λ (j : ℕ). j / g) along in
      let in_region : dealt_chunk w h ≡ (h - w.base) / g = ap (λ (j : ℕ). (h - w.base) / j) (chunk_size-pow w.gran) in
      let lows : chunk_from base w.gran h % p ≡ dealt_chunk w h % p =
      ap (λ (j : ℕ). j % p) in_window ∙ low_behind (h - w.base) (w.base - base) g p t n (pow_pos (w.gran + 8)) (pow_pos w.root_bits) turns
      ∙ ap (λ (j : ℕ). j % p) (sym in_region) in
      let thirds : chunk_from base w.gran h / p % t ≡ dealt_chunk w h / p % t =
      ap (λ (j : ℕ). j / p % t) in_window ∙ third_behind (h - w.base) (w.base - base) g p t n (pow_pos (w.gran + 8)) (pow_pos w.root_bits) turns
      ∙ ap (λ (j : ℕ). j / p % t) (sym in_region) in
      let digit : dealt_slot w h / p % t ≡ dealt_chunk w h / p % t =
      ap (λ (j : ℕ). j % t) (dealt_slot-upper told w h) ∙ mod_of_multiple (dealt_chunk w h / p) t (2 ^ w.low_bits) in
      ap (λ (j : ℕ). j + p * (chunk_from base w.gran h / p % t)) (low_same w.xor w.root_bits w.maps h (chunk_from base w.gran h) (dealt_chunk w h) lows)
      ∙ ap (λ (j : ℕ). dealt_low w h + p * j) (thirds ∙ sym digit)
      ∙ ap (λ (j : ℕ). j + p * (dealt_slot w h / p % t)) (sym (dealt_slot-low told w h))

  -- the digit at q to the base p, by the law of remainders
  pub entry_kept : (q p m : ℕ) → ((c n a b x : ℕ) → 0 < a → 0 < b → n ≡ x * (a * b) → 0 < n → c % n / a % b ≡ c / a % b)
      → 2 ^ w.low_bits ≡ m * (q * p)
      → dealt_slot w h / (2 ^ w.root_bits * q) % p ≡ (h - w.base) / (chunk_size w.gran * 2 ^ w.root_bits * q) % p
  entry_kept q p m digits divides =
      let root : ℕ = 2 ^ w.root_bits in
      let g : ℕ = chunk_size w.gran in
      let t : ℕ = factor_of w.third in
      let c : ℕ = dealt_chunk w h in
      let some : 0 < m * (q * p) = subst (λ (j : ℕ). 0 < j) divides (pow_pos w.low_bits) in
      let product : ways_by w.third w.low_bits ≡ t * m * (q * p) = ap (λ (j : ℕ). t * j) divides ∙ regroup t m q p in
      ap (λ (j : ℕ). j % p) (sym (div-div-eq-div-mul (dealt_slot w h) root q))
      ∙ ap (λ (j : ℕ). j / q % p) (dealt_slot-upper told w h)
      ∙ digits (c / root) (ways_by w.third w.low_bits) q p (t * m) (factor_q m q p some) (factor_p m q p some) product (ways_by-pos w.third w.low_bits)
      ∙ ap (λ (j : ℕ). j % p) (div-div-eq-div-mul c root q ∙ div-div-eq-div-mul (h - w.base) g (root * q))
      ∙ ap (λ (j : ℕ). (h - w.base) / j % p) (grouped g root q)
    where
      regroup : (t m q p : ℕ) → t * (m * (q * p)) ≡ t * m * (q * p)
      regroup t m q p = omega arith

      grouped : (g r q : ℕ) → g * (r * q) ≡ g * r * q
      grouped g r q = omega arith

      factor_q : (m q p : ℕ) → 0 < m * (q * p) → 0 < q
      factor_q m zero p some = absurd (omega arith)
      factor_q m (suc q) p some = omega arith

      factor_p : (m q p : ℕ) → 0 < m * (q * p) → 0 < p
      factor_p m q zero some = absurd (omega arith)
      factor_p m q (suc p) some = omega arith
