-- How a region's bytes are dealt over its slots (CXL interleave arithmetic; that chunks are counted from the
-- region's base, also for the remainder by three under XOR, is this project's rule).
use Rattle.std.specs.Prelude.{◌≡◌, ℕ, ◌+◌, ◌-◌, ◌*◌, ◌/◌, ◌%◌, ◌≤◌, Bool, IsTrue, List}
use Rattle.cxl_enc.specs.Limits.{unit}
use Rattle.cxl_num.specs.Maps.{are_usable_maps}
use Rattle.cxl_num.specs.Interleave.{chunk_size, chunk_from, factor_of, ways_by, low_by, position_by, slot_by}

-- a region's base and granularity code, its ways, and the arithmetic and maps of its window
pub record WeaveFields : Type 0 where
  pub base : ℕ
  pub gran : ℕ
  pub root_bits : ℕ
  pub third : Bool
  pub low_bits : ℕ
  pub xor : Bool
  pub maps : List ℕ

-- the ways of a weave
abbrev pub weave_ways : WeaveFields → ℕ
weave_ways w = ways_by w.third (w.root_bits + w.low_bits)

-- where n turns of all ways end, counted from the base
abbrev pub turns_end : WeaveFields → ℕ → ℕ
turns_end w n = w.base + n * weave_ways w * chunk_size w.gran

-- what a weave keeps
pub record IsWeave (w : WeaveFields) : Type 0 where
  pub aligned : w.base % unit ≡ 0
  pub gran_known : w.gran ≤ 6
  pub few_ways : weave_ways w ≤ 16
  pub maps_usable : IsTrue w.xor → IsTrue (are_usable_maps w.gran w.root_bits w.maps)

-- the number of the chunk that holds the address, from the base
abbrev pub dealt_chunk : WeaveFields → ℕ → ℕ
dealt_chunk w h = chunk_from w.base w.gran h

-- the root's part of the slot: the chunk's low bits, or the parities under XOR
abbrev pub dealt_low : WeaveFields → ℕ → ℕ
dealt_low w h = low_by w.xor w.root_bits w.maps h (dealt_chunk w h)

-- The slot to which the address is dealt. With c = (h - base) / granularity and w ways of which k are root bits it is (c mod
-- w) - (c mod 2 ^ k) + low, with low as in a position among the targets.
abbrev pub dealt_slot : WeaveFields → ℕ → ℕ
dealt_slot w h = slot_by w.root_bits (weave_ways w) (dealt_low w h) (dealt_chunk w h)

-- how far into the slot's span it is dealt: (c / w) * granularity + (h - base) mod granularity
abbrev pub dealt_offset : WeaveFields → ℕ → ℕ
dealt_offset w h = dealt_chunk w h / weave_ways w * chunk_size w.gran + (h - w.base) % chunk_size w.gran

-- The position of the address in a window that begins at `base` and has the weave's granularity, the root's
-- ways, and the same arithmetic and maps.
abbrev pub position_from : ℕ → WeaveFields → ℕ → ℕ
position_from base w h =
    let chunk = chunk_from base w.gran h in
    position_by w.root_bits (factor_of w.third) (low_by w.xor w.root_bits w.maps h chunk) chunk
