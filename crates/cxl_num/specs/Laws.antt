-- What is shown of addresses whose raw bits are replaced, and of their parities.
use Rattle.std.specs.Prelude.{◌≡◌, ℕ, ◌+◌, ◌-◌, ◌/◌, ◌%◌, ◌^◌, ◌<◌, ◌≤◌, bit_xor, IsTrue, List}
use Rattle.cxl_num.specs.Maps.{are_usable_maps, parities, with_raw_bits}

-- an address with its raw bits replaced
pub record RawBitsAreReplaced : Type 0 where
  -- its chunk has them as the low bits, and the rest of it stays
  pub chunk : (gran k h raw : ℕ) → with_raw_bits gran k h raw / 2 ^ (gran + 8)
      ≡ h / 2 ^ (gran + 8) - h / 2 ^ (gran + 8) % 2 ^ k + raw
  pub rest : (gran k h raw : ℕ) → with_raw_bits gran k h raw % 2 ^ (gran + 8) ≡ h % 2 ^ (gran + 8)
  -- by its own it stays the same
  pub own : (gran k h : ℕ) → with_raw_bits gran k h (h / 2 ^ (gran + 8) % 2 ^ k) ≡ h
  -- the last ones count
  pub again : (gran k h raw other : ℕ) → raw < 2 ^ k
      → with_raw_bits gran k (with_raw_bits gran k h raw) other ≡ with_raw_bits gran k h other
  -- it stays below a limit above them
  pub below : (gran k h limit raw : ℕ) → gran + 8 + k ≤ limit → raw < 2 ^ k → h < 2 ^ limit
      → with_raw_bits gran k h raw < 2 ^ limit

-- with the rest of an address given, its raw bits and its parities tell each other
pub record ParitiesTellRawBits : Type 0 where
  pub below : (k h : ℕ) (maps : List ℕ) → parities k maps h < 2 ^ k
  -- each raw bit turns the parity under its own map alone
  pub turned : (gran k h raw : ℕ) (maps : List ℕ) → IsTrue (are_usable_maps gran k maps) → raw < 2 ^ k
      → parities k maps (with_raw_bits gran k h raw) ≡ bit_xor raw (parities k maps (with_raw_bits gran k h 0))
  -- the parities, put as raw bits, have the raw bits as parities
  pub back : (gran k h raw : ℕ) (maps : List ℕ) → IsTrue (are_usable_maps gran k maps) → raw < 2 ^ k
      → parities k maps (with_raw_bits gran k h (parities k maps (with_raw_bits gran k h raw))) ≡ raw
  -- the addresses of one chunk have the same parities
  pub chunk : (gran k h g : ℕ) (maps : List ℕ) → IsTrue (are_usable_maps gran k maps)
      → h / 2 ^ (gran + 8) ≡ g / 2 ^ (gran + 8) → parities k maps h ≡ parities k maps g
