-- Where a block is sought first.
use Rattle.std.specs.Prelude.{ℕ, ◌+◌, ◌*◌, ◌/◌, ◌%◌, ◌^◌, bit_xor}
use Rattle.cxl_media.specs.Blocks.{Key}

-- the endpoint and the number, spread over 64 bits
abbrev pub spread : Key → ℕ
spread key = (key.0 * 0xD1B54A32D192ED03 % 2 ^ 64 + key.1) % 2 ^ 64 * 0x9E3779B97F4A7C15 % 2 ^ 64

-- the upper bits mixed into the lower ones, and spread again
unfoldable pub mixed : Key → ℕ
mixed key = bit_xor (spread key) (spread key / 2 ^ 32) * 0xD1B54A32D192ED03 % 2 ^ 64

-- the upper half of that, as a part of 2 ^ 32, of so many homes
abbrev pub home_of : ℕ → Key → ℕ
home_of homes key = mixed key / 2 ^ 32 * homes / 2 ^ 32
