-- A region with its weave, and what media has of its pieces.
use Rattle.std.specs.Prelude.{◌≡◌, ℕ}
use Rattle.std.specs.FinMap as map
use Rattle.cxl_window.specs.Fields.{WindowFields}
use Rattle.cxl_deal.specs.Weaves.{WeaveFields}
use Rattle.cxl_media.specs.Blocks.{Blocks}
use Rattle.cxl_model.specs.declared.found.Found.{Found}
use Rattle.cxl_model.specs.System.{System, IsSystem}
use Rattle.cxl_model.specs.Contents.{Contents}
use Rattle.cxl_model.specs.Regions.{IsRegionIn, weave_fields}
use Rattle.cxl_move.specs.Sides.{IsPieceAt}

-- a region of an image in its window, and its weave
pub record IsWovenIn (s : System) (w : WindowFields) (found : Found) (weave : WeaveFields) : Type 0 where
  pub system : IsSystem s
  pub region : IsRegionIn s w found
  pub dealt : weave ≡ weave_fields found w

-- of some image, in some window
abbrev pub IsWovenSomewhere : Found → WeaveFields → Type 0
IsWovenSomewhere found weave = (s : System) × (w : WindowFields) × IsWovenIn s w found weave

-- media has these pieces of the region: the block of each which is there, with its bytes, and of no other
abbrev pub HasPieces : Found → WindowFields → Contents → Blocks → Type 0
HasPieces found w contents blocks =
    (n endpoint block : ℕ) → IsPieceAt found w n endpoint block → map.get blocks (endpoint, block) ≡ map.get contents n
