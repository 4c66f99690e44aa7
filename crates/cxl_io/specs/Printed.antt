-- Hexadecimal text. Decimal text is `decimal` of std.
use Rattle.std.specs.Prelude.{ℕ, ◌-◌, false, List, ◌++◌, length, replicate}
use Rattle.std.specs.Fmt.{digits}

-- lower-case hexadecimal digits, the highest first and no zero in front but for the number 0
abbrev pub hex_of : ℕ → List ℕ
hex_of n = digits 16 false n

-- the same behind zeros, so many digits at the least
abbrev pub padded_hex : ℕ → ℕ → List ℕ
padded_hex n width = replicate (width - length (hex_of n)) 48 ++ hex_of n
