-- The raw bits that give parities, by the law of parities.
use Rattle.std.proofs.Common.{◌≡◌, ℕ, ◌<◌, ◌^◌, Bool, true, false, List, refl, sym, ap, ◌∙◌}
use Rattle.std.specs.Prelude.{IsTrue, bit_xor}
use Rattle.std.specs.Bool.{OnTrue}
use Rattle.std.specs.Int.Bits.{xor_assoc, xor_self, xor_zero_r}
use Rattle.std.proofs.lemmas.Nat.{xor_lt}
use Rattle.cxl_num.specs.Laws.{ParitiesTellRawBits}
use Rattle.cxl_num.specs.Maps.{are_usable_maps, parities, with_raw_bits}

pub on_true : (b : Bool) (P : Type 0) → (IsTrue b → P) → OnTrue b P
on_true true P p = p refl
on_true false P p = tt

xor_twice : (a b : ℕ) → bit_xor (bit_xor a b) b ≡ a
xor_twice a b = xor_assoc a b b ∙ ap (bit_xor a) (xor_self b) ∙ xor_zero_r a

module _ (told : ParitiesTellRawBits) (gran k h low : ℕ) (maps : List ℕ) where
  pub raw_few : low < 2 ^ k → bit_xor low (parities k maps (with_raw_bits gran k h 0)) < 2 ^ k
  raw_few few = xor_lt k low (parities k maps (with_raw_bits gran k h 0)) few (told.below k (with_raw_bits gran k h 0) maps)

  pub raw_gives : IsTrue (are_usable_maps gran k maps) → low < 2 ^ k
      → parities k maps (with_raw_bits gran k h (bit_xor low (parities k maps (with_raw_bits gran k h 0)))) ≡ low
  raw_gives usable few =
      let others : ℕ = parities k maps (with_raw_bits gran k h 0) in
      told.turned gran k h (bit_xor low others) maps usable (raw_few few) ∙ xor_twice low others

  pub raw_only : IsTrue (are_usable_maps gran k maps) → (raw : ℕ) → raw < 2 ^ k → parities k maps (with_raw_bits gran k h raw) ≡ low
      → raw ≡ bit_xor low (parities k maps (with_raw_bits gran k h 0))
  raw_only usable raw few gives =
      let others : ℕ = parities k maps (with_raw_bits gran k h 0) in
      sym (xor_twice raw others) ∙ ap (λ (x : ℕ). bit_xor x others) (sym (told.turned gran k h raw maps usable few) ∙ gives)
