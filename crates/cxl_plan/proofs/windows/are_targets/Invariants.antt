use Rattle.std.proofs.Common.{◌≡◌, ℕ, ◌<◌, ◌||◌, not, true, get_or}
use Rattle.cxl_topo.specs.Tree.{is_bridge_at}
use Rattle.cxl_legal.specs.Windows.{is_target}
use Rattle.cxl_plan.specs.inner.Uses.{tree_alone}
use Rattle.cxl_plan.proofs.windows.are_targets.Given as goal

abbrev pub invariant-loop-node : goal.invariant-loop-node
invariant-loop-node l = (k : ℕ) → k < l.node-index → (not (is_bridge_at l.topo.nodes (get_or l.node-items k 0)) || is_target (tree_alone l.topo.nodes) l.w (get_or l.node-items k 0)) ≡ true
