-- What a pool of frames holds.
use Rattle.std.specs.Prelude.{◌≡◌, ℕ, ◌<◌, List, replicate, count_by, slice_index_or, Option, None, IsSome, is_some, is_none, length}

-- by the number of a frame: None where it is free, and its bytes where it is out
abbrev pub Frames : Type 0
Frames = List (Option (List ℕ))

-- the bytes of a frame that is out; None where it is free, or no frame has the number
abbrev pub frame_bytes : Frames → ℕ → Option (List ℕ)
frame_bytes pool number = slice_index_or pool number None

-- the frame is out
abbrev pub IsOut : Frames → ℕ → Type 0
IsOut pool number = IsSome (frame_bytes pool number)

-- the frame is free
abbrev pub IsFree : Frames → ℕ → Type 0
IsFree pool number = (number < length pool) × (frame_bytes pool number ≡ None)

-- how many frames are free
abbrev pub free_count : Frames → ℕ
free_count pool = count_by is_none pool

-- how many frames are out
abbrev pub out_count : Frames → ℕ
out_count pool = count_by is_some pool

-- the bytes of a frame that was just taken
unfoldable pub zeros : List ℕ
zeros = replicate 256 0
