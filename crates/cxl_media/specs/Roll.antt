-- The places at which the blocks of media stand.
use Rattle.std.specs.Prelude.{◌≡◌, ℕ, IsTrue, List, slice_index_or, Option, None, Some}
use Rattle.std.specs.FinMap.{contains_key}
use Rattle.cxl_media.specs.Blocks.{Key, Blocks}
use Rattle.cxl_media.specs.declared.roll.At.{At}

-- the block that a place tells
abbrev pub told_key : At → Key
told_key at = (at.ep, at.block)

-- the block that stands at a place; None where none does, and past the last place
abbrev pub key_at_place : List (Option Key) → ℕ → Option Key
key_at_place roll i = slice_index_or roll i None

-- each block of the map stands at exactly one place, and no other block at any
pub record IsRoll (roll : List (Option Key)) (blocks : Blocks) : Type 0 where
  pub held : (i : ℕ) (key : Key) → key_at_place roll i ≡ Some key → IsTrue (contains_key blocks key)
  pub all : (key : Key) → IsTrue (contains_key blocks key) → (i : ℕ) × (key_at_place roll i ≡ Some key)
  pub once : (i j : ℕ) (key : Key) → key_at_place roll i ≡ Some key → key_at_place roll j ≡ Some key → i ≡ j
