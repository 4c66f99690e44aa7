-- The lines of bytes: the pieces that end with the byte 10, less that byte and a byte 13 before it, and a last piece without the byte 10, where it is not empty.
use Rattle.std.specs.Prelude.{◌≡◌, ℕ, ◌==◌, if◌then◌else◌, List, [], ◌∷◌, ◌++◌, length}
use Rattle.std.specs.Str.Lines.{strip_carriage_return}

-- the bytes before the first byte 10, or all where there is none
abbrev pub first_piece : List ℕ → List ℕ
first_piece [] = []
first_piece (byte ∷ bytes) = if byte == 10 then [] else byte ∷ first_piece bytes

-- the pieces behind each byte 10, of which the last one reaches to the end
abbrev pub later_pieces : List ℕ → List (List ℕ)
later_pieces [] = []
later_pieces (byte ∷ bytes) = if byte == 10 then first_piece bytes ∷ later_pieces bytes else later_pieces bytes

-- the lines of pieces, and those that ended: all but the last piece end with the byte 10
abbrev pub lines_in : List ℕ → List (List ℕ) → List (List ℕ)
lines_in piece [] = if length piece == 0 then [] else piece ∷ []
lines_in piece (next ∷ more) = strip_carriage_return piece ∷ lines_in next more

-- of these the ones that ended
abbrev pub ended_in : List ℕ → List (List ℕ) → List (List ℕ)
ended_in piece [] = []
ended_in piece (next ∷ more) = strip_carriage_return piece ∷ ended_in next more

-- the pieces that end with the byte 10, less that byte and a byte 13 before it, and a last piece that is not empty (this
-- project's rule)
abbrev pub lines_of : List ℕ → List (List ℕ)
lines_of bytes = lines_in (first_piece bytes) (later_pieces bytes)

-- the lines that ended within the bytes
abbrev pub ended_lines : List ℕ → List (List ℕ)
ended_lines bytes = ended_in (first_piece bytes) (later_pieces bytes)

-- the first line that ended, and what is behind its byte 10
pub record IsFirstLine (bytes line rest : List ℕ) : Type 0 where
  pub piece : List ℕ
  pub split : bytes ≡ piece ++ 10 ∷ rest
  pub unbroken : ended_lines piece ≡ []
  pub line_is : line ≡ strip_carriage_return piece

-- These lines were passed on of the bytes: whatever follows them, the lines left are those of the bytes that are held.
pub record HasPassed (passed : List (List ℕ)) (bytes held : List ℕ) : Type 0 where
  pub lines : (behind : List ℕ) → lines_of (bytes ++ behind) ≡ passed ++ lines_of (held ++ behind)
  pub ended : (behind : List ℕ) → ended_lines (bytes ++ behind) ≡ passed ++ ended_lines (held ++ behind)
