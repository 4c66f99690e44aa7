-- What a source holds.
use Rattle.std.specs.Prelude.{◌≡◌, ℕ, Bool, Option, IfSome, List, []}
use Rattle.cxl_io.specs.Told.{told_behind}

-- what a source has left
pub record SourceState : Type 0 where
  -- the bytes left, where it tells them
  pub left : Option (List ℕ)
  -- how often it failed; a count that has reached 2 ^ 64 - 1 stays there
  pub faults : ℕ
  -- whether its count rises at calls that fail and at no others
  pub counts_failures_alone : Bool

-- the bytes come from the front of those left, and no other is gone
abbrev pub GivesFront : SourceState → SourceState → List ℕ → Type 0
GivesFront old new bytes = old.left ≡ told_behind bytes new.left

-- no byte is left
abbrev pub IsAtEnd : SourceState → Type 0
IsAtEnd state = IfSome state.left (λ left. left ≡ [])
