-- The value of digits that are read from the left.
use Rattle.std.proofs.Common.{◌≡◌, ℕ, zero, suc, ◌+◌, ◌*◌, ◌^◌, ◌<◌, ◌≤◌, not, List, [], ◌∷◌, length, get_or, take, None, ap, ◌∙◌, sym, arith}
use Rattle.std.specs.Char.{digit_value, is_digit}
use Rattle.std.specs.List.{position_or_len}
use Rattle.std.specs.Str.Parse.{digits_value}
use Rattle.std.proofs.lemmas.Bool.Decides.{nat_tests}
use Rattle.std.proofs.lemmas.Int.Digits.{digits_value_more}
use Rattle.std.proofs.lemmas.List.Sums.{position_or_len_is}
use Rattle.std.proofs.lemmas.Str.Parse.{digits_value-take-le}
use Rattle.cxl_io.specs.Numbers.{first_bad_place}

-- one digit more
pub value_more : (base i value : ℕ) (digits : List ℕ) → i < length digits → value ≡ digits_value base (take i digits) → value * base + digit_value (get_or digits i 0) ≡ digits_value base (take (i + 1) digits)
value_more base i value digits within is =
    ap (λ v. v * base + digit_value (get_or digits i 0)) is ∙ sym (digits_value_more base digits i within)

-- once it is too large, it stays so
pub stays_too_large : (base i value : ℕ) (digits : List ℕ) → 1 ≤ base → i < length digits → value ≡ digits_value base (take i digits) → 2 ^ 64 ≤ value * base + digit_value (get_or digits i 0) → ¬ (digits_value base digits < 2 ^ 64)
stays_too_large base i value digits some within is large =
    λ fits. omega (arith, value_more base i value digits within is, digits_value-take-le base digits (i + 1) some)

-- every byte is a digit
pub all_digits : (base : ℕ) (digits : List ℕ) → ((k : ℕ) → k < length digits → digit_value (get_or digits k 0) < base) → first_bad_place base digits ≡ None
all_digits base digits each =
    let end = position_or_len_is (λ byte. not (is_digit byte base)) digits (length digits) 0 (omega arith) (λ k below. let digit = each k below in grind (arith, nat_tests)) (λ past. absurd (omega arith)) in
    grind (arith, nat_tests)

-- a byte is none
bad_place : (base : ℕ) (digits : List ℕ) (i : ℕ) → i < length digits → base ≤ digit_value (get_or digits i 0) → position_or_len (λ byte. not (is_digit byte base)) digits < length digits
bad_place base [] i within bad = absurd (omega arith)
bad_place base (digit ∷ digits) zero within bad = grind (arith, nat_tests)
bad_place base (digit ∷ digits) (suc i) within bad = let rest = bad_place base digits i (omega arith) bad in grind (arith, nat_tests)

pub some_bad : (base : ℕ) (digits : List ℕ) (i : ℕ) → i < length digits → base ≤ digit_value (get_or digits i 0) → first_bad_place base digits ≡ None → ⊥
some_bad base digits i within bad none = let place = bad_place base digits i within bad in grind (arith, nat_tests)
