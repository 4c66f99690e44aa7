use Rattle.std.proofs.Common.{◌≡◌, ℕ, length, get_or}
use Rattle.std.specs.Prelude.{slice_get, Some}
use Rattle.cxl_plan.specs.declared.stages.Stage.{Stage}
use Rattle.cxl_plan.specs.inner.Stages.{stage_at}
use Rattle.cxl_plan.proofs.stages.stages.Given as goal

abbrev pub invariant-loop-node : goal.invariant-loop-node
invariant-loop-node l =
    (length l.stages.items ≡ l.node-index)
    × ((k : ℕ) (stage : Stage) → slice_get l.stages.items k ≡ Some stage → stage ≡ stage_at l.topo.nodes l.request (get_or l.node-items k 0))
