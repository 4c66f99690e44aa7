-- XOR maps: the parities of an address under them, and the address bits that they choose by (CXIMS).
use Rattle.std.specs.Prelude.{ℕ, zero, suc, ◌+◌, ◌-◌, ◌*◌, ◌/◌, ◌%◌, ◌^◌, nat_lt, ◌==◌, ◌&&◌, bit_and, count_ones, Bool, true, false, List, [], ◌∷◌}
use Rattle.cxl_enc.specs.Limits.{address_limit}

-- Map i of a granularity code and k bits: its lowest set bit is bit code + 8 + i, no other bit up to
-- code + 7 + k is set, and none above bit 51.
abbrev pub is_usable_map : ℕ → ℕ → ℕ → ℕ → Bool
is_usable_map gran k i map =
    (map % 2 ^ (gran + 8 + i) == 0) && (map / 2 ^ (gran + 8 + i) % 2 ^ (k - i) == 1) && nat_lt map address_limit

-- the maps from i on, up to k of them, are there and usable
abbrev pub are_usable_from : ℕ → ℕ → ℕ → ℕ → List ℕ → Bool
are_usable_from gran k i zero maps = true
are_usable_from gran k i (suc n) [] = false
are_usable_from gran k i (suc n) (map ∷ maps) = is_usable_map gran k i map && are_usable_from gran k (suc i) n maps

-- there are k maps that can be used at this granularity
abbrev pub are_usable_maps : ℕ → ℕ → List ℕ → Bool
are_usable_maps gran k maps = are_usable_from gran k 0 k maps

-- how many bit places are set in both, modulo 2
abbrev pub parity_under : ℕ → ℕ → ℕ
parity_under map h = count_ones (bit_and h map) % 2

-- the sum over the first k maps i of 2 ^ i times the parity under map i
abbrev pub parities : ℕ → List ℕ → ℕ → ℕ
parities zero maps h = 0
parities (suc k) [] h = 0
parities (suc k) (map ∷ maps) h = parity_under map h + 2 * parities k maps h

-- the address with its k bits from the granularity on replaced
abbrev pub with_raw_bits : ℕ → ℕ → ℕ → ℕ → ℕ
with_raw_bits gran k h raw =
    let low = gran + 8 in
    let high = gran + 8 + k in
    h / 2 ^ high * 2 ^ high + raw * 2 ^ low + h % 2 ^ low
