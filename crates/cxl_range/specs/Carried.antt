-- What is shown of extents: each lies on device bytes to which its region carries it, and they leave no gap.
use Rattle.std.specs.Prelude.{◌≡◌, ℕ, ◌+◌, ◌<◌, List, [], ◌∷◌, slice_get, Some}
use Rattle.cxl_window.specs.Fields.{WindowFields}
use Rattle.cxl_model.specs.declared.extent.Extent.{Extent}
use Rattle.cxl_model.specs.declared.found.Found.{Found}
use Rattle.cxl_model.specs.declared.found.Place.{Place}
use Rattle.cxl_model.specs.Regions.{Carries}

-- each byte of the extent is carried to as far a place behind the extent's on the device of its slot
pub record IsCarried (found : Found) (w : WindowFields) (extent : Extent) : Type 0 where
  pub place : Place
  pub there : slice_get found.spans extent.slot ≡ Some place
  pub each : (i : ℕ) → i < extent.len → Carries found w (extent.h + i) place.endpoint (extent.dpa + i)

-- extents of some bytes each, of which the first begins at an address, each next one where the one before it
-- ends, and the last one ends at another address
abbrev pub Follow : ℕ → ℕ → List Extent → Type 0
Follow from end [] = from ≡ end
Follow from end (extent ∷ extents) = (extent.h ≡ from) × (0 < extent.len) × Follow (extent.h + extent.len) end extents
