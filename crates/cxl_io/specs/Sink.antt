-- What a sink holds.
use Rattle.std.specs.Prelude.{◌≡◌, ℕ, ◌<◌, Bool, Option, List, length, take}
use Rattle.cxl_io.specs.Told.{told_with}

-- what a sink took
pub record SinkState : Type 0 where
  -- the bytes taken so far, where it tells them
  pub taken : Option (List ℕ)
  -- how often it failed; a count that has reached 2 ^ 64 - 1 stays there
  pub faults : ℕ
  -- whether its count rises at calls that fail and at no others
  pub counts_failures_alone : Bool

-- the bytes are taken, and no other
abbrev pub Takes : SinkState → SinkState → List ℕ → Type 0
Takes old new bytes = new.taken ≡ told_with old.taken bytes

-- some bytes from the front are taken, but not all, and no other
pub record TakesPrefix (old new : SinkState) (bytes : List ℕ) : Type 0 where
  pub count : ℕ
  pub short : count < length bytes
  pub taken : Takes old new (take count bytes)
