-- The regions of an image as they are made, range by range, and each slot by slot.
use Rattle.std.specs.Prelude.{◌≡◌, ℕ, List, All, length, map, slice_get, Some}
use Rattle.cxl_regs.specs.declared.reading.Range.{Range}
use Rattle.cxl_window.specs.Fields.{WindowFields}
use Rattle.cxl_model.specs.declared.found.Found.{Found}
use Rattle.cxl_model.specs.declared.found.Place.{Place}
use Rattle.cxl_model.specs.System.{System}
use Rattle.cxl_model.specs.Ranges.{IsCommittedRange}
use Rattle.cxl_model.specs.Accepted.{IsWhole}
use Rattle.cxl_model.specs.Regions.{HasSpan, IsRegion, region_range}
use Rattle.cxl_check.specs.declared.firsts.RangeKey.{RangeKey}
use Rattle.cxl_check.specs.inner.Firsts.{range_at}

-- the range of a key is committed, and whole
pub record IsWholeKey (s : System) (key : RangeKey) : Type 0 where
  pub committed : IsCommittedRange s (range_at key)
  pub whole : IsWhole s (range_at key)

-- the regions are those of the keys
pub record AreListed (s : System) (keys : List RangeKey) (regions : List Found) : Type 0 where
  pub ranges : map region_range regions ≡ map range_at keys
  pub each : All (IsRegion s) regions

-- the spans of the first slots
pub record AreSpans (s : System) (w : WindowFields) (r : Range) (n : ℕ) (spans : List Place) : Type 0 where
  pub count : length spans ≡ n
  pub each : (slot : ℕ) (place : Place) → slice_get spans slot ≡ Some place → HasSpan s w r slot place
