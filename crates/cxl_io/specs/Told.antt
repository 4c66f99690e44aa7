-- What an object of the outside tells.
use Rattle.std.specs.Prelude.{◌≡◌, ℕ, Option, Some, None, List, ◌++◌}

-- what is told of a list, with these at its end; where nothing is told, still nothing
abbrev pub told_with : {A : Type 0} → Option (List A) → List A → Option (List A)
told_with None more = None
told_with (Some told) more = Some (told ++ more)

-- what is told of a file by its name: nothing, that there is no such file, or its bytes
pub data Told : Type 0 where
  Untold : Told
  Absent : Told
  Bytes : (bytes : List ℕ) → Told

-- a file can have these bytes
abbrev pub AreTold : Told → List ℕ → Type 0
AreTold Untold bytes = Unit {0}
AreTold Absent bytes = ⊥
AreTold (Bytes told) bytes = bytes ≡ told

-- what is told of a list by one who told `first` of it at first: where that was nothing, still nothing
abbrev pub told_since : Option (List ℕ) → Option (List ℕ) → Option (List ℕ)
told_since None now = None
told_since (Some first) now = now

-- what is told of a file by what is told of the bytes that its reader has left
abbrev pub told_by : Option (List ℕ) → Told
told_by None = Untold
told_by (Some bytes) = Bytes bytes

-- what is told of a list, with these in front
abbrev pub told_behind : {A : Type 0} → List A → Option (List A) → Option (List A)
told_behind front None = None
told_behind front (Some told) = Some (front ++ told)
