use Rattle.std.proofs.Common.{◌≡◌, ℕ, ◌<◌, Some}
use Rattle.std.specs.Prelude.{slice_get}
use Rattle.cxl_window.specs.Fields.{WindowFields}
use Rattle.cxl_model.specs.Hosts.{as_system}
use Rattle.cxl_plan.specs.inner.Choices.{HasReason}
use Rattle.cxl_plan.proofs.choosing.first_taking.Given as goal

abbrev pub invariant-loop-i : goal.invariant-loop-i
invariant-loop-i l = (j : ℕ) (v : WindowFields) → j < l.i → slice_get l.host.windows.now j ≡ Some v → HasReason (as_system l.host) l.request v
