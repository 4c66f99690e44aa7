use Rattle.std.proofs.Common.{◌≡◌, ℕ, length, Option, Some}
use Rattle.std.specs.Prelude.{slice_get}
use Rattle.cxl_window.specs.Fields.{WindowFields}
use Rattle.cxl_model.specs.Hosts.{as_system}
use Rattle.cxl_reason.specs.declared.reason.SetReason.{SetReason}
use Rattle.cxl_reason.specs.inner.Ready.{HasAnswer}
use Rattle.cxl_reason.proofs.answering.answers_of.Given as goal

abbrev pub invariant-loop-w : goal.invariant-loop-w
invariant-loop-w l =
    (length l.answers.items ≡ l.w-index)
    × ((i : ℕ) (w : WindowFields) (answer : Option SetReason) → slice_get l.host.windows.now i ≡ Some w → slice_get l.answers.items i ≡ Some answer → HasAnswer (as_system l.host) l.want w answer)
