-- Numbers as words: decimal digits, or `0x` and hexadecimal digits.
use Rattle.std.specs.Prelude.{ℕ, ◌+◌, ◌^◌, Bool, not, ◌==◌, nat_eq, nat_lt, if◌then◌else◌, Option, Some, None, Result, Ok, Err, List, length, drop, codes, position}
use Rattle.std.specs.List.{starts_with}
use Rattle.std.specs.Char.{is_digit}
use Rattle.std.specs.Str.Parse.{digits_value}
use Rattle.cxl_io.specs.declared.number.NumFault.{NumFault}
use Rattle.cxl_io.specs.declared.number.NumFault.TheVariants.{Empty, BadDigit, TooLarge}

-- the place of the first byte that is no digit in the base
abbrev pub first_bad_place : ℕ → List ℕ → Option ℕ
first_bad_place base digits = position (λ byte. not (is_digit byte base)) digits

-- a fault at the first byte that is no digit, or else the value where 64 bits hold it
abbrev pub value_or_fault : ℕ → Option ℕ → ℕ → Result ℕ NumFault
value_or_fault start (Some at) value = Err (BadDigit (start + at))
value_or_fault start None value = if nat_lt value (2 ^ 64) then Ok value else Err TooLarge

-- the number that digits in a base write, which begin at that place of their word
abbrev pub number_in : ℕ → ℕ → List ℕ → Result ℕ NumFault
number_in base start digits =
    if length digits == 0 then Err Empty else value_or_fault start (first_bad_place base digits) (digits_value base digits)

-- a word that begins with `0x` is in base 16
abbrev pub is_hexadecimal : List ℕ → Bool
is_hexadecimal word = starts_with nat_eq word (codes "0x")

-- the number that a word stands for, or what is wrong with it
abbrev pub number_of : List ℕ → Result ℕ NumFault
number_of word = if is_hexadecimal word then number_in 16 2 (drop 2 word) else number_in 10 0 word
