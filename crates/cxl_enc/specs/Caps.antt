-- The capability word of a decoder block (CXL HDM decoder capability).
use Rattle.std.specs.Prelude.{ℕ, ◌+◌, ◌*◌, ◌/◌, ◌%◌, ◌^◌, ◌==◌, nat_le, nat_lt, ◌&&◌, ◌||◌, Bool, if◌then◌else◌}
use Rattle.cxl_enc.specs.declared.caps.Caps.{Caps}

-- bits 3:0, the code of the decoder count
abbrev pub decoders_code : ℕ → ℕ
decoders_code cap = cap % 16

-- 1, 2, 4, 6, 8 and 10 decoders for the codes 0 to 5
abbrev pub decoders_of : ℕ → ℕ
decoders_of code = if code == 0 then 1 else 2 * code

-- bits 7:4, the target count
abbrev pub targets_of : ℕ → ℕ
targets_of cap = cap / 16 % 16

-- a block can have so many decoders
abbrev pub is_decoder_count : ℕ → Bool
is_decoder_count n = (n == 1) || (n == 2) || (n == 4) || (n == 6) || (n == 8) || (n == 10)

-- a port can have so many targets
abbrev pub is_target_count : ℕ → Bool
is_target_count n = (n == 1) || (n == 2) || (n == 4) || (n == 8)

-- bit 10 and the bits from 13 on stand for nothing
abbrev pub has_named_bits : ℕ → Bool
has_named_bits cap = nat_le (decoders_code cap) 5 && (cap / 1024 % 2 == 0) && nat_lt cap 8192

-- an endpoint has no targets; a port has some, and neither the ways 3, 6 and 12 (bit 11) nor the ways 16 (bit 12)
abbrev pub has_own_bits : ℕ → Bool → Bool
has_own_bits cap endpoint =
    if endpoint then targets_of cap == 0 else is_target_count (targets_of cap) && nat_lt cap 2048

-- A word that a port's or an endpoint's block may have. That a port has no 3, 6, 12 and 16 ways, and that other bits are
-- clear, is this project's rule.
abbrev pub is_legal_cap : ℕ → Bool → Bool
is_legal_cap cap endpoint = has_named_bits cap && has_own_bits cap endpoint

-- fields that a capability word can have
abbrev pub are_caps : Caps → Bool
are_caps caps = is_decoder_count caps.decoders && ((caps.targets == 0) || is_target_count caps.targets)

-- bit k of a word
abbrev pub has_bit : ℕ → ℕ → Bool
has_bit n k = n / 2 ^ k % 2 == 1

-- a flag as a bit
abbrev pub bit_of : Bool → ℕ
bit_of flag = if flag then 1 else 0

-- the word with these fields
abbrev pub word_of : Caps → ℕ
word_of caps =
    caps.decoders / 2 + 16 * caps.targets + 256 * bit_of caps.low + 512 * bit_of caps.high
    + 2048 * bit_of caps.ways3 + 4096 * bit_of caps.ways16
