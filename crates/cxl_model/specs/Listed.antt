-- All regions of an image as a list.
use Rattle.std.specs.Prelude.{ℕ, ◌≡◌, ◌≢◌, ◌<◌, List, All, AllPairs, Contains}
use Rattle.cxl_model.specs.declared.found.Found.{Found}
use Rattle.cxl_model.specs.System.{System}
use Rattle.cxl_regs.specs.declared.reading.Range.{Range}
use Rattle.cxl_model.specs.Ranges.{IsCommittedRange}
use Rattle.cxl_model.specs.Regions.{region_range, IsRegion}

-- each is a region, each committed range has one, and none stands twice
pub record AreRegions (s : System) (regions : List Found) : Type 0 where
  pub each : All (IsRegion s) regions
  pub all : (r : Range) → IsCommittedRange s r → (found : Found) × Contains regions found × (region_range found ≡ r)
  pub once : AllPairs (λ a b. a ≢ b) regions

-- the same by rising base
pub record AreRegionsByBase (s : System) (regions : List Found) : Type 0 where
  pub listed : AreRegions s regions
  pub rising : AllPairs (λ a b. a.base < b.base) regions

-- the most regions that live at once (this project's rule)
abbrev pub region_limit : ℕ
region_limit = 256
