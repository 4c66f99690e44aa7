-- The pieces of a region in media, and those of one region carried over to another (this project's rules).
use Rattle.std.specs.Prelude.{◌≡◌, ℕ, ◌+◌, ◌*◌, ◌↔◌, IsTrue, List, Contains, Option, None}
use Rattle.std.specs.List.Sorted.{IsStrictlyIncreasing}
use Rattle.std.specs.FinMap as map
use Rattle.cxl_window.specs.Fields.{WindowFields}
use Rattle.cxl_media.specs.Blocks.{Blocks}
use Rattle.cxl_model.specs.declared.found.Found.{Found}
use Rattle.cxl_model.specs.System.{System, IsSystem}
use Rattle.cxl_model.specs.Regions.{IsRegionIn, Carries}
use Rattle.cxl_model.specs.Bytes.{LiesInSpan}

-- ---- the pieces in media

-- piece n of the region is carried to this block of 256 bytes of this endpoint's device
abbrev pub IsPieceAt : Found → WindowFields → ℕ → ℕ → ℕ → Type 0
IsPieceAt found w n endpoint block = Carries found w (found.base + 256 * n) endpoint (256 * block)

-- the block of piece n is in media
pub record HasPiece (found : Found) (w : WindowFields) (blocks : Blocks) (n : ℕ) : Type 0 where
  pub endpoint : ℕ
  pub block : ℕ
  pub at : IsPieceAt found w n endpoint block
  pub there : IsTrue (map.contains_key blocks (endpoint, block))

-- these are the pieces that media holds, rising
pub record AreHeld (found : Found) (w : WindowFields) (blocks : Blocks) (pieces : List ℕ) : Type 0 where
  pub rising : IsStrictlyIncreasing pieces
  pub exact : (n : ℕ) → (Contains pieces n) ↔ (HasPiece found w blocks n)

-- media is left without the blocks of the region's spans, and with all others
pub record IsCleared (found : Found) (old new : Blocks) : Type 0 where
  pub gone : (endpoint block : ℕ) → LiesInSpan found endpoint (256 * block) → map.get new (endpoint, block) ≡ None
  pub others : (endpoint block : ℕ) → (LiesInSpan found endpoint (256 * block) → ⊥) → map.get new (endpoint, block) ≡ map.get old (endpoint, block)

-- ---- from one region to another

-- two regions of one image, of one size, without a byte of a device in common
pub record AreSides (from : Found) (v : WindowFields) (to : Found) (w : WindowFields) : Type 0 where
  pub s : System
  pub system : IsSystem s
  pub first : IsRegionIn s v from
  pub second : IsRegionIn s w to
  pub size : from.size ≡ to.size
  pub apart : (endpoint dpa : ℕ) → LiesInSpan from endpoint dpa → LiesInSpan to endpoint dpa → ⊥

-- The pieces of the second are those that the first had, the first has of each piece what `rest` leaves, and no other
-- block changes.
pub record IsCarriedOver (rest : Option (List ℕ) → Option (List ℕ)) (from : Found) (v : WindowFields) (to : Found) (w : WindowFields) (old new : Blocks) : Type 0 where
  pub second : (n endpoint block source place : ℕ) → IsPieceAt to w n endpoint block → IsPieceAt from v n source place → map.get new (endpoint, block) ≡ map.get old (source, place)
  pub first : (n source place : ℕ) → IsPieceAt from v n source place → map.get new (source, place) ≡ rest (map.get old (source, place))
  pub others : (endpoint block : ℕ) → (LiesInSpan from endpoint (256 * block) → ⊥) → (LiesInSpan to endpoint (256 * block) → ⊥) → map.get new (endpoint, block) ≡ map.get old (endpoint, block)

-- the second has the pieces of the first, which is left without any
abbrev pub IsMoved : Found → WindowFields → Found → WindowFields → Blocks → Blocks → Type 0
IsMoved from v to w old new = IsCarriedOver (λ piece. None) from v to w old new

-- or with all of its own
abbrev pub IsCopied : Found → WindowFields → Found → WindowFields → Blocks → Blocks → Type 0
IsCopied from v to w old new = IsCarriedOver (λ piece. piece) from v to w old new
