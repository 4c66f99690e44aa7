-- The parities of an address under usable maps, and its raw bits.
use Rattle.std.proofs.Common.{◌≡◌, ℕ, zero, suc, ◌+◌, ◌-◌, ◌*◌, ◌/◌, ◌%◌, ◌^◌, ◌<◌, ◌≤◌, List, [], ◌∷◌, refl, sym, ap, ◌∙◌, subst, arith}
use Rattle.std.specs.Prelude.{bit_and, bit_xor, IsTrue}
use Rattle.std.specs.Int.RustNames.{count_ones}
use Rattle.std.specs.Int.Bits.{and_zero_r, xor_add_and, xor_zero_r, xor_assoc, xor_self}
use Rattle.std.specs.Int.Count.{ones_cat}
use Rattle.std.proofs.Math.Pow.{pow_pos}
use Rattle.std.proofs.Math.Nat.{mod-lt, pow-suc}
use Rattle.std.proofs.lemmas.Nat.{and_block, and_mask, shr_split, xor_shr, pow_below, shr-shr}
use Rattle.std.proofs.lemmas.Bool.{and_parts, eqb-true, false≢true}
use Rattle.cxl_num.specs.Maps.{is_usable_map, are_usable_from, are_usable_maps, parity_under, parities, with_raw_bits}
use Rattle.cxl_num.specs.Laws.{ParitiesTellRawBits}
use Rattle.cxl_num.proofs.RawBits.{raw_bits, with-quotient, quotient-parts, raw_bits-below}

-- ---- digits

-- a number of one binary digit counts as itself
ones-digit : (d : ℕ) → d < 2 → count_ones d ≡ d
unfolding count_ones
ones-digit zero small = refl
ones-digit (suc zero) small = refl
ones-digit (suc (suc d)) small = absurd (omega arith)

-- the lowest digit of a number, and the rest, under xor
xor_digits : (a b : ℕ) → bit_xor a b ≡ (a % 2 + b % 2) % 2 + 2 * bit_xor (a / 2) (b / 2)
xor_digits a b = omega (arith, xor_shr a b 1, xor_add_and a b)

-- one digit put before each of two numbers
xor_cons : (r d p : ℕ) → d < 2 → (r % 2 + d) % 2 + 2 * bit_xor (r / 2) p ≡ bit_xor r (d + 2 * p)
xor_cons r d p small =
    let lowest : (d + 2 * p) % 2 ≡ d = omega arith in
    let rest : (d + 2 * p) / 2 ≡ p = omega arith in
    sym (xor_digits r (d + 2 * p) ∙ ap (λ (k : ℕ). (r % 2 + k) % 2 + 2 * bit_xor (r / 2) ((d + 2 * p) / 2)) lowest
    ∙ ap (λ (k : ℕ). (r % 2 + d) % 2 + 2 * bit_xor (r / 2) k) rest)

-- ---- one map

-- what is_usable_map says at place e, with n bits from there
record IsMapAt (e n map : ℕ) : Type 0 where
  below : map % 2 ^ e ≡ 0
  one : map / 2 ^ e % 2 ^ n ≡ 1

-- the set bits that an address x and r at place e shares with such a map
shared_bits : (e n m x r d : ℕ) → 0 < n → d < 2 ^ e
    → count_ones (bit_and ((x * 2 ^ n + r) * 2 ^ e + d) ((m * 2 ^ n + 1) * 2 ^ e + 0))
    ≡ count_ones (bit_and (x * 2 ^ n + r) (m * 2 ^ n + 1))
unfolding count_ones
shared_bits e n m x r d some small =
    let none = and_zero_r d in
    ap count_ones (and_block e (x * 2 ^ n + r) (m * 2 ^ n + 1) d 0 small (pow_pos e))
    ∙ ones_cat e (bit_and (x * 2 ^ n + r) (m * 2 ^ n + 1)) (bit_and d 0) (rw none (pow_pos e))
    ∙ omega (arith, ap count_ones none)

shared_digit : (n m x r : ℕ) → 0 < n → r < 2 ^ n
    → count_ones (bit_and (x * 2 ^ n + r) (m * 2 ^ n + 1)) ≡ count_ones (bit_and x m) + r % 2
unfolding count_ones
shared_digit n m x r some small =
    let one : 1 < 2 ^ n = pow_below 0 n some in
    let digit : bit_and r 1 ≡ r % 2 = and_mask r 1 in
    let two : 2 ≤ 2 ^ n = one in
    let least : r % 2 < 2 = mod-lt r (pow_pos 1) in
    let fits : bit_and r 1 < 2 ^ n = omega arith in
    ap count_ones (and_block n x m r 1 small one)
    ∙ ones_cat n (bit_and x m) (bit_and r 1) fits
    ∙ ap (λ (k : ℕ). count_ones (bit_and x m) + count_ones k) digit
    ∙ ap (λ (k : ℕ). count_ones (bit_and x m) + k) (ones-digit (r % 2) least)

-- above place e the map has bit e, no other of the n bits from there, and what stands above those
parity_at : (e n map h x r : ℕ) → IsMapAt e n map → 0 < n → h / 2 ^ e ≡ x * 2 ^ n + r → r < 2 ^ n
    → parity_under map h ≡ (count_ones (bit_and x (map / 2 ^ e / 2 ^ n)) + r % 2) % 2
parity_at e n map h x r at some split small =
    let m = map / 2 ^ e / 2 ^ n in
    let upper : map / 2 ^ e ≡ m * 2 ^ n + 1 = omega (arith, shr_split (map / 2 ^ e) n, at.one) in
    let whole : map ≡ (m * 2 ^ n + 1) * 2 ^ e + 0 =
    omega (arith, shr_split map e, at.below, ap (λ (k : ℕ). k * 2 ^ e) upper) in
    let address : h ≡ (x * 2 ^ n + r) * 2 ^ e + h % 2 ^ e =
    omega (arith, shr_split h e, ap (λ (k : ℕ). k * 2 ^ e) split) in
    ap (λ (k : ℕ). k % 2)
    (ap (λ (k : ℕ). count_ones (bit_and h k)) whole
    ∙ ap (λ (k : ℕ). count_ones (bit_and k ((m * 2 ^ n + 1) * 2 ^ e + 0))) address
    ∙ shared_bits e n m x r (h % 2 ^ e) some (mod-lt h (pow_pos e))
    ∙ shared_digit n m x r some small)

-- ---- the maps from i on

map_at : (gran k i n map : ℕ) → i + suc n ≡ k → IsTrue (is_usable_map gran k i map)
    → IsMapAt (gran + 8 + i) (suc n) map
map_at gran k i n map count usable =
    let left : k - i ≡ suc n = omega arith in
    let both = (and_parts _ _ usable).0 in
    let below = (and_parts _ _ both).0 in
    let one = (and_parts _ _ both).1 in
    record {
      below = eqb-true _ _ below;
      one = subst (λ (j : ℕ). map / 2 ^ (gran + 8 + i) % 2 ^ j ≡ 1) left (eqb-true _ _ one);
    }

-- one place further up
next_split : (e n h x r : ℕ) → h / 2 ^ e ≡ x * 2 ^ suc n + r → h / 2 ^ suc e ≡ x * 2 ^ n + r / 2
next_split e n h x r split =
    let one_more : e + 1 ≡ suc e = omega arith in
    let halved : h / 2 ^ e / 2 ≡ h / 2 ^ suc e = shr-shr h e 1 ∙ ap (λ (j : ℕ). h / 2 ^ j) one_more in
    let doubled : x * 2 ^ suc n ≡ x * (2 ^ n * 2) = ap (λ (j : ℕ). x * j) (pow-suc 2 n) in
    omega arith

pub parities-below : (n : ℕ) (maps : List ℕ) (h : ℕ) → parities n maps h < 2 ^ n
parities-below zero maps h = omega arith
parities-below (suc n) [] h = pow_pos (suc n)
parities-below (suc n) (map ∷ maps) h =
    let digit : parity_under map h < 2 = mod-lt (count_ones (bit_and h map)) (pow_pos 1) in
    omega (arith, parities-below n maps h, pow-suc 2 n)

-- two addresses that agree above n bits, of which one has r there and the other 0
parities_from : (gran k i n : ℕ) (maps : List ℕ) (h g x r : ℕ) → i + n ≡ k
    → IsTrue (are_usable_from gran k i n maps)
    → h / 2 ^ (gran + 8 + i) ≡ x * 2 ^ n + r → g / 2 ^ (gran + 8 + i) ≡ x * 2 ^ n + 0 → r < 2 ^ n
    → parities n maps h ≡ bit_xor r (parities n maps g)
parities_from gran k i zero maps h g x r count usable split bare small =
    sym (xor_zero_r r ∙ omega arith)
parities_from gran k i (suc n) [] h g x r count usable split bare small = absurd (false≢true usable)
parities_from gran k i (suc n) (map ∷ maps) h g x r count usable split bare small =
    let e = gran + 8 + i in
    let parts = and_parts _ _ usable in
    let at = map_at gran k i n map count parts.0 in
    let above = count_ones (bit_and x (map / 2 ^ e / 2 ^ suc n)) in
    let of_h : parity_under map h ≡ (above + r % 2) % 2 =
    parity_at e (suc n) map h x r at (omega arith) split small in
    let of_g : parity_under map g ≡ (above + 0) % 2 =
    parity_at e (suc n) map g x 0 at (omega arith) bare (pow_pos (suc n)) in
    let lowest : parity_under map h ≡ (r % 2 + parity_under map g) % 2 = omega arith in
    let up : suc e ≡ gran + 8 + suc i = omega arith in
    let split_up = subst (λ (j : ℕ). h / 2 ^ j ≡ x * 2 ^ n + r / 2) up (next_split e n h x r split) in
    let bare_up = subst (λ (j : ℕ). g / 2 ^ j ≡ x * 2 ^ n + 0 / 2) up (next_split e n g x 0 bare) in
    let rest = parities_from gran k (suc i) n maps h g x (r / 2) (omega arith) parts.1 split_up bare_up (omega (arith, pow-suc 2 n)) in
    let digit : parity_under map g < 2 = mod-lt (count_ones (bit_and g map)) (pow_pos 1) in
    ap (λ (k : ℕ). k + 2 * parities n maps h) lowest
    ∙ ap (λ (k : ℕ). (r % 2 + parity_under map g) % 2 + 2 * k) rest
    ∙ xor_cons r (parity_under map g) (parities n maps g) digit

-- ---- an address with its raw bits replaced

module _ (gran k : ℕ) (maps : List ℕ) (usable : IsTrue (are_usable_maps gran k maps)) where
  -- from the first map on
  parities_turned : (h g x raw : ℕ) → h / 2 ^ (gran + 8) ≡ x * 2 ^ k + raw → g / 2 ^ (gran + 8) ≡ x * 2 ^ k + 0
      → raw < 2 ^ k
      → parities k maps h ≡ bit_xor raw (parities k maps g)
  parities_turned h g x raw split bare small =
      let first : gran + 8 ≡ gran + 8 + 0 = omega arith in
      parities_from gran k 0 k maps h g x raw (omega arith) usable
      (subst (λ (j : ℕ). h / 2 ^ j ≡ x * 2 ^ k + raw) first split)
      (subst (λ (j : ℕ). g / 2 ^ j ≡ x * 2 ^ k + 0) first bare) small

  -- the raw bits turn the parities that the other bits give
  pub parities-with : (h raw : ℕ) → raw < 2 ^ k
      → parities k maps (with_raw_bits gran k h raw) ≡ bit_xor raw (parities k maps (with_raw_bits gran k h 0))
  parities-with h raw small =
      parities_turned (with_raw_bits gran k h raw) (with_raw_bits gran k h 0) (h / 2 ^ (gran + 8 + k)) raw
      (with-quotient gran k h raw) (with-quotient gran k h 0) small

  -- parities put as raw bits give the raw bits back
  pub parities-with_parities : (h raw : ℕ) → raw < 2 ^ k
      → parities k maps (with_raw_bits gran k h (parities k maps (with_raw_bits gran k h raw))) ≡ raw
  parities-with_parities h raw small =
      let bare = parities k maps (with_raw_bits gran k h 0) in
      let turned = parities k maps (with_raw_bits gran k h raw) in
      let below = parities-below k maps (with_raw_bits gran k h raw) in
      parities-with h turned below
      ∙ ap (λ (j : ℕ). bit_xor j bare) (parities-with h raw small)
      ∙ xor_assoc raw bare bare
      ∙ ap (bit_xor raw) (xor_self bare)
      ∙ xor_zero_r raw

  -- bits below the granularity do not matter
  pub parities-chunk : (h g : ℕ) → h / 2 ^ (gran + 8) ≡ g / 2 ^ (gran + 8) → parities k maps h ≡ parities k maps g
  parities-chunk h g same =
      let x = h / 2 ^ (gran + 8 + k) in
      let raw = raw_bits gran k h in
      let of_h = quotient-parts gran k h in
      let bare = with_raw_bits gran k h 0 in
      let turned = parities_turned h bare x raw of_h (with-quotient gran k h 0) (raw_bits-below gran k h) in
      let turned_too = parities_turned g bare x raw (sym same
      ∙ of_h) (with-quotient gran k h 0) (raw_bits-below gran k h) in
      turned ∙ sym turned_too

pub parities_told : ParitiesTellRawBits
parities_told = record {
  below = λ k h maps. parities-below k maps h;
  turned = λ gran k h raw maps usable small. parities-with gran k maps usable h raw small;
  back = λ gran k h raw maps usable small. parities-with_parities gran k maps usable h raw small;
  chunk = λ gran k h g maps usable same. parities-chunk gran k maps usable h g same;
}
