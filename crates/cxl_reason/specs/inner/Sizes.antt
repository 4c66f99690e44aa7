-- At which sizes each target bridge of a window gives something, in parts of 256 MiB for each way.
use Rattle.std.specs.Prelude.{◌≡◌, ℕ, ◌*◌, ◌≤◌, true, is_some}
use Rattle.cxl_enc.specs.Limits.{unit}
use Rattle.cxl_window.specs.Fields.{WindowFields}
use Rattle.cxl_model.specs.System.{System}
use Rattle.cxl_legal.specs.Sizes.{IsSizeFor}
use Rattle.cxl_pick.specs.declared.want.Want.{Want}
use Rattle.cxl_pick.specs.Picking.{given_in}
use Rattle.cxl_reason.specs.Reasons.{with_size}

-- at a size that a region of so many ways can have
pub record GivesAt (s : System) (want : Want) (w : WindowFields) (size : ℕ) : Type 0 where
  pub legal : IsSizeFor size want.ways
  pub gives : is_some (given_in s (with_size want size) w) ≡ true

-- at so many parts
abbrev pub GivesAtParts : System → Want → WindowFields → ℕ → Type 0
GivesAtParts s want w parts = GivesAt s want w (parts * (unit * want.ways))

-- where it is so at a size, it is at each lower one
abbrev pub Falls : System → Want → WindowFields → Type 0
Falls s want w = (size lower : ℕ) → lower ≤ size → IsSizeFor lower want.ways → GivesAt s want w size → GivesAt s want w lower

-- at this size, and at no larger one
pub record GivesMost (s : System) (want : Want) (w : WindowFields) (size : ℕ) : Type 0 where
  pub gives : GivesAt s want w size
  pub most : (parts : ℕ) → GivesAtParts s want w parts → parts * (unit * want.ways) ≤ size
