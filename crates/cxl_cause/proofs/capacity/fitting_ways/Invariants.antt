use Rattle.std.proofs.Common.{◌≡◌, ◌/◌, ◌<◌, ℕ, false, Some}
use Rattle.std.specs.Prelude.{slice_get}
use Rattle.cxl_cause.specs.BlockCauses.{all_ways, fits_device}
use Rattle.cxl_cause.proofs.capacity.fitting_ways.Given as goal

abbrev pub invariant-loop-ways : goal.invariant-loop-ways
invariant-loop-ways l = (k ways : ℕ) → k < l.ways-index → slice_get all_ways k ≡ Some ways → fits_device l.capacity.ram l.capacity.pmem l.start (l.size / ways) ≡ false
