use Rattle.std.proofs.Common.{◌≡◌, ℕ, ◌<◌, true, get_or}
use Rattle.cxl_plan.specs.inner.Judging.{selects_at}
use Rattle.cxl_plan.proofs.windows.first_not_selecting.Given as goal

abbrev pub invariant-loop-place : goal.invariant-loop-place
invariant-loop-place l = (k : ℕ) → k < l.place → selects_at l.topo.nodes l.request l.w (get_or l.uses.nodes.items k 0) ≡ true
