-- Reading and writing the flat bytes of a region (this project's rules).
use Rattle.std.specs.Prelude.{ℕ, ◌+◌, ◌-◌, ◌*◌, ◌/◌, ◌<◌, nat_lt, nat_le, ◌&&◌, not, if◌then◌else◌, List, length, map, fold, filter, slice_index, All}
use Rattle.std.specs.List.{range_with_len}
use Rattle.std.specs.FinMap as map
use Rattle.cxl_model.specs.Contents.{Contents, content_at}

-- what a line stores are bytes
abbrev pub AreBytes : List ℕ → Type 0
AreBytes bytes = All (λ byte. byte < 256) bytes

-- so many bytes from an offset on
abbrev pub bytes_at : Contents → ℕ → ℕ → List ℕ
bytes_at contents offset len = map (content_at contents) (range_with_len offset len)

-- the numbers of the pieces of 256 bytes that they touch; there is at least one byte
abbrev pub touched_pieces : ℕ → ℕ → List ℕ
touched_pieces offset len = range_with_len (offset / 256) ((offset + len - 1) / 256 + 1 - offset / 256)

-- those of them that are not in the map
abbrev pub new_pieces : Contents → ℕ → ℕ → List ℕ
new_pieces contents offset len = filter (λ n. not (map.contains_key contents n)) (touched_pieces offset len)

-- the byte at place i once these bytes are written from an offset on
abbrev pub byte_after : Contents → ℕ → List ℕ → ℕ → ℕ
byte_after contents offset bytes i =
    if nat_le offset i && nat_lt i (offset + length bytes) then slice_index bytes (i - offset) else content_at contents i

-- the bytes of piece n then
abbrev pub piece_after : Contents → ℕ → List ℕ → ℕ → List ℕ
piece_after contents offset bytes n = map (byte_after contents offset bytes) (range_with_len (256 * n) 256)

-- each touched piece holds its bytes, and no other piece is another
abbrev pub written : Contents → ℕ → List ℕ → Contents
written contents offset bytes =
    fold (λ after n. map.insert after n (piece_after contents offset bytes n)) contents (touched_pieces offset (length bytes))
