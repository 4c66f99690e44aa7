-- How the faults of files are named.
use Rattle.std.specs.Prelude.{ℕ, List, Option, None, Some, ◌++◌, codes, decimal}

-- a word, and the number behind it, if there is one
abbrev pub numbered : List ℕ → Option ℕ → List ℕ
numbered word None = word
numbered word (Some number) = word ++ codes " " ++ decimal number
