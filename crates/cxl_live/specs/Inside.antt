-- What the fields of live regions stand for.
use Rattle.std.specs.Prelude.{◌≤◌, List, length}
use Rattle.std.specs.Vec.{vec_capacity}
use Rattle.cxl_model.specs.declared.found.Found.{Found}
use Rattle.cxl_model.specs.Listed.{region_limit}
use Rattle.cxl_live.specs.declared.regions.LiveRegions.TheInside.{Inside}
use Rattle.cxl_live.specs.ByBase.{AreByBase}

-- the live regions, each at its place
abbrev pub founds_of : Inside → List Found
founds_of regions = regions.founds.items

-- The bases are those of the regions, and there is room for as many as may live.
pub record AreLiveInOrder (regions : Inside) : Type 0 where
  pub few : length regions.founds.items ≤ region_limit
  pub founds_room : region_limit ≤ vec_capacity regions.founds
  pub bases_room : region_limit ≤ vec_capacity regions.bases
  pub order : AreByBase regions.founds.items regions.bases.items
