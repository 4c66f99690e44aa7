-- One piece at a time: a piece that goes to another block.
use Rattle.std.specs.Prelude.{◌≡◌, ◌≢◌, ℕ, List, Option, Some}
use Rattle.std.specs.FinMap as map
use Rattle.cxl_media.specs.Blocks.{Key, Blocks}
use Rattle.cxl_model.specs.declared.found.Found.{Found}
use Rattle.cxl_window.specs.Fields.{WindowFields}
use Rattle.cxl_move.specs.Sides.{IsPieceAt}

-- a block stands there, and the region carries this piece to it
pub record HasPieceAt (found : Found) (w : WindowFields) (place : Option Key) (n : ℕ) : Type 0 where
  pub key : Key
  pub there : place ≡ Some key
  pub at : IsPieceAt found w n key.0 key.1

-- the second block is what the first one was, the first is what `rest` leaves of it, and no other changes
pub record IsPieceCarried (rest : Option (List ℕ) → Option (List ℕ)) (source target : Key) (old new : Blocks) : Type 0 where
  pub given : map.get new target ≡ map.get old source
  pub left : map.get new source ≡ rest (map.get old source)
  pub others : (key : Key) → key ≢ source → key ≢ target → map.get new key ≡ map.get old key
