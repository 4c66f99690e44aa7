-- Regions with their bytes, and the blocks of media that hold these.
use Rattle.std.specs.Prelude.{◌≢◌, ℕ, List, All, AllPairs, Option}
use Rattle.std.specs.FinMap as map
use Rattle.cxl_media.specs.Blocks.{Blocks}
use Rattle.cxl_model.specs.System.{System, IsSystem}
use Rattle.cxl_model.specs.Regions.{IsRegionIn}
use Rattle.cxl_model.specs.Contents.{Holding, AreContents}

-- the block of an endpoint with this number
abbrev pub told_in : Blocks → ℕ → ℕ → Option (List ℕ)
told_in blocks endpoint block = map.get blocks (endpoint, block)

-- regions of one image with their windows and bytes, no two the same
pub record AreHoldings (s : System) (holdings : List Holding) : Type 0 where
  pub system : IsSystem s
  pub each : All (λ (one : Holding). IsRegionIn s one.window one.found × AreContents one.found one.contents) holdings
  pub once : AllPairs (λ (one other : Holding). one.found ≢ other.found) holdings
