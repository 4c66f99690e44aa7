-- What media holds: blocks of 256 bytes, by endpoint and block number.
use Rattle.std.specs.Prelude.{ℕ, ◌+◌, ◌*◌, ◌/◌, ◌%◌, ◌<◌, ◌≤◌, Bool, ◌==◌, ◌&&◌, not, nat_le, nat_lt, List, ◌++◌, length, take, drop, unwrap_or, if◌then◌else◌}
use Rattle.std.specs.Ordering.{nat_cmp, ordering_then}
use Rattle.std.specs.declared.cmp.Ordering.{Ordering}
use Rattle.std.specs.FinMap as map
use Rattle.cxl_media.specs.Pool.{zeros}

-- an endpoint's node number and a block's number: block b covers the device addresses 256 * b to 256 * b + 255
abbrev pub Key : Type 0
Key = ℕ × ℕ

-- by endpoint, then by number
abbrev pub key_cmp : Key → Key → Ordering
key_cmp a b = ordering_then (nat_cmp a.0 b.0) (nat_cmp a.1 b.1)

-- 256 bytes by an endpoint and the number of a block
abbrev pub Blocks : Type 0
Blocks = map.FinMap key_cmp (List ℕ)

-- the block that holds a device byte
abbrev pub key_of : ℕ → ℕ → Key
key_of ep dpa = (ep, dpa / 256)

-- the bytes of a block; one that is not in the map reads as zero
abbrev pub block_at : Blocks → Key → List ℕ
block_at blocks key = unwrap_or (map.get blocks key) zeros

-- how many frames a block takes that is to be in the map
abbrev pub frames_needed : Blocks → Key → ℕ
frames_needed blocks key = if map.contains_key blocks key then 0 else 1

-- 1 to 256 bytes from a device address on that lie in one block
pub record IsInOneBlock (dpa len : ℕ) : Type 0 where
  pub some : 0 < len
  pub fits : dpa % 256 + len ≤ 256

-- so many bytes of a block from a place on
abbrev pub bytes_from : List ℕ → ℕ → ℕ → List ℕ
bytes_from block at len = take len (drop at block)

-- a block with bytes written over those from a place on
abbrev pub overwritten : List ℕ → ℕ → List ℕ → List ℕ
overwritten block at bytes = take at block ++ (bytes ++ drop (at + length bytes) block)

-- a block of the endpoint from one device address up to another
abbrev pub is_between : ℕ → ℕ → ℕ → Key → Bool
is_between ep from to key = (key.0 == ep) && (nat_le from (256 * key.1) && nat_lt (256 * key.1) to)

-- the map without these blocks
abbrev pub scrubbed : Blocks → ℕ → ℕ → ℕ → Blocks
scrubbed blocks ep from to = map.retain_keys blocks (λ key. not (is_between ep from to key))
