use Rattle.std.proofs.Common.{◌≡◌, ℕ, ◌<◌, ◌&&◌, ◌||◌, not, Some, false}
use Rattle.std.specs.Prelude.{slice_get}
use Rattle.cxl_window.specs.Fields.{WindowFields}
use Rattle.cxl_window.specs.Position.{is_usable, holds}
use Rattle.cxl_cause.proofs.windows.place_holding.Given as goal

abbrev pub invariant-loop-i : goal.invariant-loop-i
invariant-loop-i l = (k : ℕ) (w : WindowFields) → k < l.i → slice_get l.windows k ≡ Some w → ((not l.usable || is_usable w.verdict) && holds w l.h) ≡ false
