-- What a region holds: one flat row of bytes, kept in pieces of 256 (this project's rule).
use Rattle.std.specs.Prelude.{◌≡◌, ℕ, ◌+◌, ◌*◌, ◌/◌, ◌%◌, ◌<◌, List, length, replicate, slice_index, All, Contains, Option, Some, unwrap_or}
use Rattle.std.specs.Ordering.{nat_cmp}
use Rattle.std.specs.FinMap as map
use Rattle.cxl_window.specs.Fields.{WindowFields}
use Rattle.cxl_model.specs.declared.found.Found.{Found}
use Rattle.cxl_model.specs.Regions.{Carries}

-- a region's bytes, zero where no piece is: piece n covers the offsets 256 * n to 256 * n + 255 from its base
abbrev pub Contents : Type 0
Contents = map.FinMap nat_cmp (List ℕ)

-- the pieces lie in the region and have 256 bytes each, and what they hold are bytes
pub record AreContents (found : Found) (contents : Contents) : Type 0 where
  pub inside : (n : ℕ) (bytes : List ℕ) → map.get contents n ≡ Some bytes → n < found.size / 256
  pub whole : (n : ℕ) (bytes : List ℕ) → map.get contents n ≡ Some bytes → length bytes ≡ 256
  pub bytes : (n : ℕ) (bytes : List ℕ) → map.get contents n ≡ Some bytes → All (λ byte. byte < 256) bytes

-- the byte at an offset; one in no piece is zero
abbrev pub content_at : Contents → ℕ → ℕ
content_at contents offset = slice_index (unwrap_or (map.get contents (offset / 256)) (replicate 256 0)) (offset % 256)

-- a region with its window and its contents
pub record Holding : Type 0 where
  pub found : Found
  pub window : WindowFields
  pub contents : Contents

-- a piece with these bytes is carried to this block of 256 bytes of this endpoint's device
pub record KeepsPieceAt (holding : Holding) (n endpoint block : ℕ) (bytes : List ℕ) : Type 0 where
  pub piece : map.get holding.contents n ≡ Some bytes
  pub carried : Carries holding.found holding.window (holding.found.base + 256 * n) endpoint (256 * block)

-- Media has exactly the blocks to which the regions' pieces are carried, with the same bytes; it is told here as
-- the block of an endpoint with a number, where it has that.
pub record AreMediaOf (regions : List Holding) (media : ℕ → ℕ → Option (List ℕ)) : Type 0 where
  pub each : (holding : Holding) (n endpoint block : ℕ) (bytes : List ℕ) → Contains regions holding → KeepsPieceAt holding n endpoint block bytes → media endpoint block ≡ Some bytes
  pub only : (endpoint block : ℕ) (bytes : List ℕ) → media endpoint block ≡ Some bytes → (holding : Holding) × (n : ℕ) × Contains regions holding × KeepsPieceAt holding n endpoint block bytes
