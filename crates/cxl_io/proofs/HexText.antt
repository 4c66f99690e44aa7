-- Hexadecimal digits that are written from the last to the first.
use Rattle.std.proofs.Common.{◌≡◌, ◌≢◌, ℕ, zero, suc, ◌+◌, ◌-◌, ◌*◌, ◌/◌, ◌%◌, ◌^◌, ◌<◌, ◌≤◌, Bool, true, false, cond, ◌==◌, List, [], ◌∷◌, ◌++◌, length, take, drop, set, replicate, refl, sym, ap, ◌∙◌, arith, eq-eqb, ne_eqb, take-take}
use Rattle.std.proofs.Math.Nat.{pow-zero, pow-suc, div-lt_iff_lt-mul}
use Rattle.std.proofs.lemmas.List.{take-append-drop, drop-append-le, drop-replicate, drop-set, take-set, length-replicate}
use Rattle.std.specs.Fmt.{digits, digits_onto, digit_glyph}
use Rattle.cxl_io.specs.Printed.{hex_of, padded_hex}

-- what is left has a digit less
pub quotient_fits : (at left : ℕ) → 1 ≤ at → left < 16 ^ at → left / 16 < 16 ^ (at - 1)
quotient_fits zero left some small = absurd (omega arith)
quotient_fits (suc k) left some small =
    let e : suc k - 1 ≡ k = omega arith in
    let below : left < 16 ^ k * 16 = omega (arith, pow-suc 16 k) in
    let positive : 0 < 16 = omega arith in
    rw e ((div-lt_iff_lt-mul {k = 16} positive).1 below)

-- a number that is not 0 has a digit
pub has_digit : (at left : ℕ) → left ≢ 0 → left < 16 ^ at → 1 ≤ at
has_digit zero left some small = absurd (some (omega (arith, pow-zero 16)))
has_digit (suc k) left some small = omega arith

-- all the digits
pub digits_onto-whole : (n : ℕ) → digits_onto 64 16 false n [] ≡ hex_of n
unfolding digits
digits_onto-whole n = refl

digits_onto-suc : (k left : ℕ) (rest : List ℕ) (last : Bool) → (left / 16 == 0) ≡ last → digits_onto (suc k) 16 false left rest ≡ cond last (digit_glyph false (left % 16) ∷ rest) (digits_onto k 16 false (left / 16) (digit_glyph false (left % 16) ∷ rest))
digits_onto-suc k left rest last e =
    ap (λ (b : Bool). cond b (digit_glyph false (left % 16) ∷ rest) (digits_onto k 16 false (left / 16) (digit_glyph false (left % 16) ∷ rest))) e

-- the first digit
digits_onto_last : (k left : ℕ) (rest : List ℕ) → 1 ≤ k → left / 16 ≡ 0 → digits_onto k 16 false left rest ≡ digit_glyph false (left % 16) ∷ rest
digits_onto_last zero left rest some none = absurd (omega arith)
digits_onto_last (suc k) left rest some none = digits_onto-suc k left rest true (eq-eqb _ 0 none)

-- one digit more, before those that are written
digits_onto_more : (k left : ℕ) (rest : List ℕ) → 1 ≤ k → left / 16 ≢ 0 → digits_onto k 16 false left rest ≡ digits_onto (k - 1) 16 false (left / 16) (digit_glyph false (left % 16) ∷ rest)
digits_onto_more zero left rest some more = absurd (omega arith)
digits_onto_more (suc k) left rest some more =
    let e : k ≡ suc k - 1 = omega arith in
    digits_onto-suc k left rest false (ne_eqb _ 0 more)
    ∙ ap (λ (j : ℕ). digits_onto j 16 false (left / 16) (digit_glyph false (left % 16) ∷ rest)) e

-- A digit is written before the others.
module _ (text : List ℕ) (at left byte : ℕ) (some : 1 ≤ at) (within : at ≤ length text) (digit : byte ≡ digit_glyph false (left % 16)) where
  drop_written : drop (at - 1) (set text (at - 1) byte) ≡ digit_glyph false (left % 16) ∷ drop at text
  drop_written =
      let e : at - 1 + 1 ≡ at = omega arith in
      drop-set text (at - 1) byte (omega arith) ∙ ap (λ i. byte ∷ drop i text) e ∙ ap (λ b. b ∷ drop at text) digit

  pub written_last : (n : ℕ) → left / 16 ≡ 0 → digits_onto (48 + at) 16 false left (drop at text) ≡ hex_of n → drop (at - 1) (set text (at - 1) byte) ≡ hex_of n
  written_last n none so_far =
      drop_written ∙ sym (digits_onto_last (48 + at) left (drop at text) (omega arith) none) ∙ so_far

  pub written_more : (n : ℕ) → left / 16 ≢ 0 → digits_onto (48 + at) 16 false left (drop at text) ≡ hex_of n → digits_onto (48 + (at - 1)) 16 false (left / 16) (drop (at - 1) (set text (at - 1) byte)) ≡ hex_of n
  written_more n more so_far =
      let e : 48 + (at - 1) ≡ 48 + at - 1 = omega arith in
      ap (digits_onto (48 + (at - 1)) 16 false (left / 16)) drop_written
      ∙ ap (λ k. digits_onto k 16 false (left / 16) (digit_glyph false (left % 16) ∷ drop at text)) e
      ∙ sym (digits_onto_more (48 + at) left (drop at text) (omega arith) more) ∙ so_far

-- what stands before it stays
pub written_before : (text old : List ℕ) (at byte : ℕ) → take at text ≡ take at old → take (at - 1) (set text (at - 1) byte) ≡ take (at - 1) old
written_before text old at byte same =
    take-set text (at - 1) byte ∙ sym (take-take (at - 1) at text (omega arith)) ∙ ap (take (at - 1)) same
    ∙ take-take (at - 1) at old (omega arith)

-- digits behind zeros, read from one of the zeros on
pub padded_from : (text : List ℕ) (n start from width : ℕ) → take start text ≡ replicate start 48 → drop start text ≡ hex_of n → from ≤ start → start - from ≡ width - length (hex_of n) → drop from text ≡ padded_hex n width
padded_from text n start from width zeros found within count =
    let fits : from ≤ length (replicate {A = ℕ} start 48) = omega (arith, length-replicate {A = ℕ} start 48) in
    ap (drop from) (whole text start _ zeros found) ∙ drop-append-le from (replicate start 48) (hex_of n) fits
    ∙ ap (λ front. front ++ hex_of n) (drop-replicate from start 48 ∙ ap (λ k. replicate k 48) count)
  where
    whole : (text : List ℕ) (start : ℕ) (back : List ℕ) → take start text ≡ replicate start 48 → drop start text ≡ back → text ≡ replicate start 48 ++ back
    whole text start back zeros found = rw (← zeros, ← found) (sym (take-append-drop start text))
