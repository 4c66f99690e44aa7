use Rattle.std.proofs.Common.{◌≡◌, ℕ, ◌<◌, false, get_or}
use Rattle.cxl_plan.specs.inner.Judging.{uneven_at}
use Rattle.cxl_plan.proofs.judge.first_uneven.Given as goal

abbrev pub invariant-loop-node : goal.invariant-loop-node
invariant-loop-node l = (k : ℕ) → k < l.node-index → uneven_at l.topo.nodes l.request (get_or l.node-items k 0) ≡ false
