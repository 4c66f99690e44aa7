-- Parities map by map.
use Rattle.std.proofs.Common.{◌≡◌, ℕ, suc, ◌+◌, ◌-◌, ◌*◌, ◌^◌, ◌<◌, ◌≤◌, List, length, get_or, drop, ap, ◌∙◌, arith}
use Rattle.std.proofs.Math.Seq.{drop-cons}
use Rattle.std.proofs.Math.Nat.{pow-suc}
use Rattle.cxl_num.specs.Maps.{parities, parity_under}

-- the parities under the maps from i on, by those under the maps behind it
parities-drop : (maps : List ℕ) (h bits i : ℕ) → i < bits → bits ≤ length maps
    → parities (bits - i) (drop i maps) h ≡ parity_under (get_or maps i 0) h + 2 * parities (bits - suc i) (drop (suc i) maps) h
parities-drop maps h bits i inside few =
    let more : bits - i ≡ suc (bits - suc i) = omega arith in
    let there : i < length maps = omega arith in
    ap (λ (n : ℕ). parities n (drop i maps) h) more ∙ ap (λ (ms : List ℕ). parities (suc (bits - suc i)) ms h) (drop-cons maps i 0 there)

-- the sum is that of the parities under the maps from i on, and has so many bits
pub record IsSumFrom (maps : List ℕ) (h bits i sum : ℕ) : Type 0 where
  pub value : sum ≡ parities (bits - i) (drop i maps) h
  pub few : sum < 2 ^ (bits - i)

-- one map more in front
pub IsSumFrom-front : (maps : List ℕ) (h bits i sum bit : ℕ) → suc i ≤ bits → bits ≤ length maps
    → bit ≡ parity_under (get_or maps i 0) h → bit < 2 → IsSumFrom maps h bits (suc i) sum → IsSumFrom maps h bits i (2 * sum + bit)
IsSumFrom-front maps h bits i sum bit inside few bit-is one rest =
    let more : bits - i ≡ suc (bits - suc i) = omega arith in
    record {
      value = omega (arith, parities-drop maps h bits i inside few, rest.value);
      few = rw more (omega (arith, pow-suc 2 (bits - suc i), rest.few));
    }
