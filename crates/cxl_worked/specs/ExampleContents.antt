-- Worked contents: four bytes that were stored across the end of a chunk, and the device blocks in which they stand.
use Rattle.std.specs.Prelude.{ℕ, ◌==◌, ◌&&◌, if◌then◌else◌, List, [], ◌∷◌, ◌++◌, replicate, Option, Some, None}
use Rattle.std.specs.FinMap as map
use Rattle.cxl_model.specs.Contents.{Contents, Holding}
use Rattle.cxl_worked.specs.Examples.{window_of_both}
use Rattle.cxl_worked.specs.ExampleRegions.{region_of_two}

-- 0xaa 0xbb at the end of the first 256 bytes, and 0xcc 0xdd at the start of the next
abbrev pub last_two : List ℕ
last_two = replicate 254 0 ++ 0xaa ∷ 0xbb ∷ []

-- the second piece: its first two bytes, and zeros
abbrev pub first_two : List ℕ
first_two = 0xcc ∷ 0xdd ∷ replicate 254 0

-- four bytes, two on each side of a piece's end
abbrev pub four_bytes : Contents
four_bytes = map.insert (map.insert map.empty 0 last_two) 1 first_two

-- in the region of both endpoints under two bridges
abbrev pub holding_four : Holding
holding_four = record { found = region_of_two; window = window_of_both; contents = four_bytes }

-- block 0 of the first endpoint's device has two of them, and block 0 of the second one's has the other two
abbrev pub media_of_four : ℕ → ℕ → Option (List ℕ)
media_of_four endpoint block =
    if (endpoint == 2) && (block == 0) then Some last_two
    else (if (endpoint == 3) && (block == 0) then Some first_two else None)
