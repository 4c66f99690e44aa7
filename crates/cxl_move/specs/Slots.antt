-- The slots of a region on the device of an endpoint.
use Rattle.std.specs.Prelude.{◌≡◌, ℕ, ◌+◌, ◌<◌, slice_get, Some}
use Rattle.cxl_model.specs.declared.found.Found.{Found}
use Rattle.cxl_model.specs.declared.found.Place.{Place}
use Rattle.cxl_model.specs.Bytes.{slot_length}

-- the byte of the endpoint's device lies so far into the span of this slot
pub record IsByteOfSlot (found : Found) (endpoint dpa slot offset : ℕ) : Type 0 where
  pub place : Place
  pub there : slice_get found.spans slot ≡ Some place
  pub here : place.endpoint ≡ endpoint
  pub at : place.start + offset ≡ dpa
  pub within : offset < slot_length found
