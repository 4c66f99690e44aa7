-- What is written over the bytes of a table.
use Rattle.std.specs.Prelude.{ℕ, ◌+◌, ◌≤◌, List, [], ◌∷◌, ◌++◌, length, take, drop, ⊤}
use Rattle.cxl_table.specs.declared.cedt.Record.{Record}
use Rattle.cxl_table.specs.Records.{record_length}
use Rattle.cxl_cedt.specs.Spelling.{record_spelling}

-- the bytes with a part in the place of those from place `at` on
abbrev pub with_part : List ℕ → ℕ → List ℕ → List ℕ
with_part bytes at part = take at bytes ++ (part ++ drop (at + length part) bytes)

-- the bytes with the spelling of each record at its place
abbrev pub mended : List ℕ → List ℕ → List Record → List ℕ
mended bytes [] records = bytes
mended bytes (at ∷ places) [] = bytes
mended bytes (at ∷ places) (r ∷ records) = mended (with_part bytes at (record_spelling r)) places records

-- each record ends within so many bytes
abbrev pub FitIn : ℕ → List ℕ → List Record → Type 0
FitIn size [] records = ⊤
FitIn size (at ∷ places) [] = ⊤
FitIn size (at ∷ places) (r ∷ records) = (at + record_length r ≤ size) × FitIn size places records
