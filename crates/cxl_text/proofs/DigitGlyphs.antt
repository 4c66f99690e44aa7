-- The sixteen hexadecimal digits.
use Rattle.std.proofs.Common.{◌≡◌, ℕ, zero, suc, ◌+◌, ◌<◌, Bool, true, ◌==◌, ◌&&◌, cond, nat_lt, slice_index, arith, inl, inr, refl}
use Rattle.std.proofs.lemmas.Bool.{and_parts, cases_lt, eqb-true}
use Rattle.hex.specs.Hex.{lower_digits}

-- the tests of the first so many, which compute
abbrev are_glyphs : ℕ → Bool
are_glyphs zero = true
are_glyphs (suc n) = (slice_index lower_digits n == cond (nat_lt n 10) (48 + n) (87 + n)) && are_glyphs n

glyph_below : (n value : ℕ) → are_glyphs n ≡ true → value < n → slice_index lower_digits value ≡ cond (nat_lt value 10) (48 + value) (87 + value)
glyph_below zero value tests within = absurd (omega arith)
glyph_below (suc n) value tests within =
    let parts = and_parts (slice_index lower_digits n == cond (nat_lt n 10) (48 + n) (87 + n)) (are_glyphs n) tests in
    elim (cases_lt value n) [
      | inl below ↦ glyph_below n value parts.1 below
      | inr top ↦
          let last : value ≡ n = omega arith in
          rw last (eqb-true _ _ parts.0)
    ]

pub glyph : (value : ℕ) → value < 16 → slice_index lower_digits value ≡ cond (nat_lt value 10) (48 + value) (87 + value)
glyph value within = glyph_below 16 value refl within
