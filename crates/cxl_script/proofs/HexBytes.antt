-- Hexadecimal digits as the bytes that they write.
use Rattle.std.proofs.Common.{◌≡◌, ℕ, zero, suc, ◌+◌, ◌*◌, ◌/◌, ◌<◌, ◌≤◌, Bool, true, false, nat_lt, List, [], ◌∷◌, ◌++◌, length, take, drop, slice_index, slice_set, Ok, cond, refl, ap, ◌∙◌, arith, append_assoc}
use Rattle.std.proofs.lemmas.Bool.{and_parts}
use Rattle.std.proofs.lemmas.Bool.Decides.{nat_tests}
use Rattle.std.proofs.lemmas.List.{append-nil, drop_all, drop_more, take_all, take_more_set}
use Rattle.std.specs.List.{list_all}
use Rattle.std.specs.Char.{digit_value, is_digit}
use Rattle.cxl_script.specs.declared.fault.Why.TheVariants as whys
use Rattle.cxl_script.specs.Reading.{bad, is_hex, hex_bytes, few_bytes, word_as_bytes}

pub hex_bytes_length : (digits : List ℕ) → length (hex_bytes digits) ≡ length digits / 2
hex_bytes_length [] = refl
hex_bytes_length (digit ∷ []) = refl
hex_bytes_length (high ∷ low ∷ rest) = let more = hex_bytes_length rest in omega (arith, more)

-- what the digits of a word come to
module _ (most at : ℕ) (text : List ℕ) (hex : is_hex text ≡ true) where
  as_bytes : (over : Bool) → nat_lt most (length (hex_bytes text)) ≡ over
      → word_as_bytes most (record { at = at; text = text }) ≡ cond over (bad at whys.Range) (Ok (hex_bytes text))
  as_bytes over e =
      ap (λ (t : Bool). cond t (few_bytes at most (hex_bytes text)) (bad at whys.Hex)) hex
      ∙ ap (λ (t : Bool). cond t (bad at whys.Range) (Ok (hex_bytes text))) e

  pub too_many : most < length text / 2 → word_as_bytes most (record { at = at; text = text }) ≡ bad at whys.Range
  too_many over = let count = hex_bytes_length text in as_bytes true (grind (arith, nat_tests))

  pub few_enough : length text / 2 ≤ most → word_as_bytes most (record { at = at; text = text }) ≡ Ok (hex_bytes text)
  few_enough within = let count = hex_bytes_length text in as_bytes false (grind (arith, nat_tests))

pub digit_at : (digits : List ℕ) (k : ℕ) → list_all (λ b. is_digit b 16) digits ≡ true → k < length digits → is_digit (slice_index digits k) 16 ≡ true
digit_at [] k all within = absurd (omega arith)
digit_at (digit ∷ rest) zero all within = (and_parts (is_digit digit 16) (list_all (λ b. is_digit b 16) rest) all).0
digit_at (digit ∷ rest) (suc k) all within =
    digit_at rest k (and_parts (is_digit digit 16) (list_all (λ b. is_digit b 16) rest) all).1 (omega arith)

-- what is left, at a whole pair
drop-pair : (digits : List ℕ) (i : ℕ) → 2 * i + 1 < length digits
    → drop (2 * i) digits ≡ slice_index digits (2 * i) ∷ slice_index digits (2 * i + 1) ∷ drop (2 * (i + 1)) digits
drop-pair digits i fits =
    let high = drop_more digits (2 * i) 0 (omega arith) in
    let low = drop_more digits (2 * i + 1) 0 (omega arith) in
    let two : 2 * i + 1 + 1 ≡ 2 * (i + 1) = omega arith in
    rw (high, low, two) refl

-- one byte more is written
pub byte_step : (digits bytes : List ℕ) (i byte : ℕ) → 2 * i + 1 < length digits → i < length bytes
    → byte ≡ 16 * digit_value (slice_index digits (2 * i)) + digit_value (slice_index digits (2 * i + 1))
    → take i bytes ++ hex_bytes (drop (2 * i) digits) ≡ hex_bytes digits
    → take (i + 1) (slice_set bytes i byte) ++ hex_bytes (drop (2 * (i + 1)) digits) ≡ hex_bytes digits
byte_step digits bytes i byte fits room is so_far =
    let rest = ap hex_bytes (drop-pair digits i fits) in
    let front = take_more_set bytes i byte room in
    rw (front, append_assoc, is) (rw rest at so_far)

-- every byte is written
pub byte_done : (digits bytes : List ℕ) (i : ℕ) → length bytes ≤ i → length digits ≤ 2 * i
    → take i bytes ++ hex_bytes (drop (2 * i) digits) ≡ hex_bytes digits → bytes ≡ hex_bytes digits
byte_done digits bytes i all none so_far =
    let rest = drop_all (2 * i) digits none in
    let front = take_all i bytes all in
    rw (rest, front, append-nil) at so_far
