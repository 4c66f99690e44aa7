use Rattle.std.proofs.Common.{◌≡◌, ℕ, ◌<◌, get_or, true}
use Rattle.std.specs.Prelude.{is_some}
use Rattle.cxl_model.specs.Hosts.{as_system}
use Rattle.cxl_reason.specs.inner.Gifts.{at_target}
use Rattle.cxl_reason.proofs.windows.all_give.Given as goal

abbrev pub invariant-loop-uid : goal.invariant-loop-uid
invariant-loop-uid l = (k : ℕ) → k < l.uid-index → is_some (at_target (as_system l.host) l.want l.w l.start (get_or l.targets k 0)) ≡ true
