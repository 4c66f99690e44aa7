-- Chunks and ways: what interleave arithmetic makes of the number of a chunk (CXL interleave arithmetic).
use Rattle.std.specs.Prelude.{ℕ, ◌+◌, ◌-◌, ◌*◌, ◌/◌, ◌%◌, ◌^◌, Bool, if◌then◌else◌, List}
pub use Rattle.cxl_enc.specs.Codes.{chunk_size}
use Rattle.cxl_num.specs.Maps.{parities}

-- the number of the chunk that holds an address, counted from a base
abbrev pub chunk_from : ℕ → ℕ → ℕ → ℕ
chunk_from base gran h = (h - base) / chunk_size gran

-- the t of ways t * 2 ^ k: 3 or 1
abbrev pub factor_of : Bool → ℕ
factor_of third = if third then 3 else 1

-- t * 2 ^ k
abbrev pub ways_by : Bool → ℕ → ℕ
ways_by third k = factor_of third * 2 ^ k

-- the k low bits that a chunk of an address goes by: those of its number, or the parities under XOR
abbrev pub low_by : Bool → ℕ → List ℕ → ℕ → ℕ → ℕ
low_by xor k maps h chunk = if xor then parities k maps h else chunk % 2 ^ k

-- a position among t * 2 ^ k targets, by k low bits and the chunk's number
abbrev pub position_by : ℕ → ℕ → ℕ → ℕ → ℕ
position_by k t low chunk = low + 2 ^ k * (chunk / 2 ^ k % t)

-- a slot among the ways: the chunk's number modulo the ways, its k low bits replaced
abbrev pub slot_by : ℕ → ℕ → ℕ → ℕ → ℕ
slot_by k ways low chunk = chunk % ways - chunk % 2 ^ k + low
