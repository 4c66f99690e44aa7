use Rattle.std.proofs.Common.{◌≡◌, ℕ, ◌<◌, Some, None}
use Rattle.std.specs.Prelude.{slice_get}
use Rattle.cxl_window.specs.Fields.{WindowFields}
use Rattle.cxl_window.specs.Position.{position_at}
use Rattle.cxl_trace.proofs.walking.outset_of.Given as goal

abbrev pub invariant-loop-window : goal.invariant-loop-window
invariant-loop-window l = (k : ℕ) → k < l.window-index → (w : WindowFields) → slice_get l.windows k ≡ Some w → position_at w l.h ≡ None
