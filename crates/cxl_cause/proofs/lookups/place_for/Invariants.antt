use Rattle.std.proofs.Common.{◌≡◌, ℕ, ◌<◌, Some, false}
use Rattle.std.specs.Prelude.{slice_get}
use Rattle.cxl_window.specs.Fields.{WindowFields}
use Rattle.cxl_model.specs.Ranges.{lies_within}
use Rattle.cxl_cause.proofs.lookups.place_for.Given as goal

abbrev pub invariant-loop-i : goal.invariant-loop-i
invariant-loop-i l = (k : ℕ) (w : WindowFields) → k < l.i → slice_get l.windows k ≡ Some w → lies_within l.range w ≡ false
