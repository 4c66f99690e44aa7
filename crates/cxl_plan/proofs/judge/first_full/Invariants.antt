use Rattle.std.proofs.Common.{◌≡◌, ℕ, ◌<◌, [], false, get_or}
use Rattle.cxl_span.specs.Allotting.{all_committed}
use Rattle.cxl_model.specs.System.{decoders_at}
use Rattle.cxl_plan.specs.inner.Judging.{without_windows}
use Rattle.cxl_plan.proofs.judge.first_full.Given as goal

abbrev pub invariant-loop-node : goal.invariant-loop-node
invariant-loop-node l = (k : ℕ) → k < l.node-index → all_committed (decoders_at (without_windows [] l.image) (get_or l.node-items k 0)) ≡ false
