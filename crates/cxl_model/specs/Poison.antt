-- The parts of what a poison record touches.
use Rattle.std.specs.Prelude.{ℕ}
use Rattle.cxl_model.specs.declared.poison.Part.{Part}
use Rattle.cxl_model.specs.declared.poison.Part.TheVariants as parts

-- the place of its region among the live ones
abbrev pub region_of : Part → ℕ
region_of (parts.Run run) = run.region
region_of (parts.Wide wide) = wide.region
