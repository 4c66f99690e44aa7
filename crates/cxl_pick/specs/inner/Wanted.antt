-- What is known of what is wanted once a pick goes over the windows.
use Rattle.std.specs.Prelude.{◌≡◌, true}
use Rattle.cxl_enc.specs.Codes.{is_ways}
use Rattle.cxl_pick.specs.declared.want.Want.{Want}
use Rattle.cxl_pick.specs.Picking.{IsWantedSize}

-- a number of ways that a region can have, and a size that it can have
pub record HasWaysAndSize (want : Want) : Type 0 where
  pub ways : is_ways want.ways ≡ true
  pub size : IsWantedSize want
