-- The words of a line: runs of bytes that are neither space nor tab (this project's rule).
use Rattle.std.specs.Prelude.{ℕ, ◌+◌, ◌-◌, ◌==◌, ◌||◌, Bool, if◌then◌else◌, List, [], ◌∷◌, ◌++◌, length}

-- a word, and the byte place at which it begins
pub record Word : Type 0 where
  pub at : ℕ
  pub text : List ℕ

-- what is left of a line to read: its length, and its words behind those that are read
pub record Left : Type 0 where
  pub len : ℕ
  pub words : List Word

-- space or tab
abbrev pub is_blank : ℕ → Bool
is_blank b = (b == 32) || (b == 9)

-- a word that ends before this place, where it has bytes
abbrev pub ended : ℕ → List ℕ → List Word
ended at [] = []
ended at (b ∷ bs) = record { at = at - length (b ∷ bs); text = b ∷ bs } ∷ []

-- the words of the bytes from a place on, behind the bytes of a word that has begun
abbrev pub line_words_from : ℕ → List ℕ → List ℕ → List Word
line_words_from at begun [] = ended at begun
line_words_from at begun (b ∷ bs) =
    if is_blank b then ended at begun ++ line_words_from (at + 1) [] bs else line_words_from (at + 1) (begun ++ b ∷ []) bs

-- the words of a line
abbrev pub line_words : List ℕ → List Word
line_words line = line_words_from 0 [] line
