-- Which of a window's targets a host address goes to (CFMWS interleave arithmetic; that chunks are counted
-- from the window's base, also for the remainder by three under XOR, is this project's rule).
use Rattle.std.specs.Prelude.{ℕ, ◌+◌, ◌*◌, ◌/◌, ◌%◌, ◌^◌, nat_lt, nat_le, ◌&&◌, Bool, true, false, if◌then◌else◌, Option, Some, None}
use Rattle.cxl_enc.specs.Codes.{third_of, bits_of}
use Rattle.cxl_num.specs.Maps.{parities}
use Rattle.cxl_num.specs.Interleave.{chunk_from, low_by, position_by}
use Rattle.cxl_window.specs.declared.window.Verdict.{Verdict}
use Rattle.cxl_window.specs.declared.window.Verdict.TheVariants.{Usable, Align, Size, TooHigh, Overlap, Target, Repeat, Maps}
use Rattle.cxl_window.specs.Fields.{WindowFields}

-- under XOR, the parities under the maps
abbrev pub parities_of : WindowFields → ℕ → ℕ
parities_of w h = parities (bits_of w.ways) w.maps h

-- the number of the chunk that holds the address, from the window's base
abbrev pub chunk_of : WindowFields → ℕ → ℕ
chunk_of w h = chunk_from w.base w.gran h

-- the low part: the chunk's low bits, or the parities under XOR
abbrev pub low_of : WindowFields → ℕ → ℕ
low_of w h = low_by w.xor (bits_of w.ways) w.maps h (chunk_of w h)

-- The position among the targets. With c = (h - base) / granularity it is low + 2 ^ k * ((c / 2 ^ k) mod t), where low is c
-- mod 2 ^ k, or under XOR the sum of 2 ^ i times the parity of the bit places set in both h and map i. That c counts from
-- the window's base, also for the remainder by three under XOR, is this project's rule.
abbrev pub position_of : WindowFields → ℕ → ℕ
position_of w h = position_by (bits_of w.ways) (third_of w.ways) (low_of w h) (chunk_of w h)

-- the window holds the address
abbrev pub holds : WindowFields → ℕ → Bool
holds w h = nat_le w.base h && nat_lt h (w.base + w.size)

-- the window can be used
abbrev pub is_usable : Verdict → Bool
is_usable Usable = true
is_usable Align = false
is_usable Size = false
is_usable TooHigh = false
is_usable (Overlap i) = false
is_usable (Target u) = false
is_usable (Repeat u) = false
is_usable Maps = false

-- the position, where the window can be used and holds the address
abbrev pub position_at : WindowFields → ℕ → Option ℕ
position_at w h = if is_usable w.verdict && holds w h then Some (position_of w h) else None

-- the position of the window's target to which a slot of a region belongs
abbrev pub target_position : WindowFields → ℕ → ℕ
target_position w slot = slot % 2 ^ bits_of w.ways + 2 ^ bits_of w.ways * (slot / 2 ^ bits_of w.ways % third_of w.ways)
