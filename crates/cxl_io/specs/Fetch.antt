-- What the files hold, by their names.
use Rattle.std.specs.Prelude.{◌≡◌, ℕ, ◌<◌, ◌≤◌, Bool, Option, List, length}
use Rattle.cxl_enc.specs.Limits.{file_limit}
use Rattle.cxl_io.specs.Told.{told_with, Told, Untold, Absent, Bytes, AreTold}

-- What files tell of a name: nothing, that there is no such file, or its bytes. Names are bytes, too.
pub record FetchState : Type 0 where
  pub told : List ℕ → Told
  -- the names that were asked for, in order, where they are told
  pub asked : Option (List (List ℕ))
  -- how often it failed; a count that has reached 2 ^ 64 - 1 stays there
  pub faults : ℕ
  -- whether its count rises at calls that fail and at no others
  pub counts_failures_alone : Bool

-- these names are asked for, in this order, and no other
abbrev pub AsksFor : FetchState → FetchState → List (List ℕ) → Type 0
AsksFor old new names = new.asked ≡ told_with old.asked names

-- the bytes are a whole file within the limit, and are those that are told of it
pub record IsFile (told : Told) (bytes : List ℕ) : Type 0 where
  pub within : length bytes ≤ file_limit
  pub same : AreTold told bytes

-- a file can be over the limit
abbrev pub IsTooLarge : Told → Type 0
IsTooLarge Untold = Unit {0}
IsTooLarge Absent = ⊥
IsTooLarge (Bytes bytes) = file_limit < length bytes
