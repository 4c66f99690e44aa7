-- The list of the free frames, threaded through the frames themselves.
use Rattle.std.specs.Prelude.{◌≡◌, ℕ, ◌+◌, ◌<◌, Bool, false, ◌==◌, List, [], ◌∷◌, slice_index_or, slice_index, Option, Some, None, if◌then◌else◌}
use Rattle.std.proofs.Common.{zero, suc}
use Rattle.std.specs.List.{list_any}
use Rattle.std.specs.Int.{w32, from_le_bytes}

-- the number that the first four bytes of a frame name, lowest byte first
unfoldable pub next_of : List ℕ → ℕ
next_of bytes = from_le_bytes w32 (slice_index bytes 0 ∷ slice_index bytes 1 ∷ slice_index bytes 2 ∷ slice_index bytes 3 ∷ [])

-- so many frames from the first on, each naming the next
abbrev pub chain : List (List ℕ) → ℕ → ℕ → List ℕ
chain frames zero first = []
chain frames (suc count) first = first ∷ chain frames count (next_of (slice_index_or frames first []))

-- the number stands in the list
abbrev pub is_listed : ℕ → List ℕ → Bool
is_listed number numbers = list_any (λ n. n == number) numbers

-- numbers of frames, each once
abbrev pub AreNumbers : ℕ → List ℕ → Type 0
AreNumbers total [] = Unit {0}
AreNumbers total (n ∷ rest) = (n < total) × (is_listed n rest ≡ false) × AreNumbers total rest

-- the frames from a number on, None where it is listed as free
abbrev pub marked_from : ℕ → List ℕ → List (List ℕ) → List (Option (List ℕ))
marked_from at free [] = []
marked_from at free (bytes ∷ rest) = (if is_listed at free then None else Some bytes) ∷ marked_from (at + 1) free rest
