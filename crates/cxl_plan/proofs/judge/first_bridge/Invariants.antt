use Rattle.std.proofs.Common.{◌≡◌, ℕ, ◌<◌, false, get_or}
use Rattle.cxl_topo.specs.Tree.{is_bridge_at}
use Rattle.cxl_plan.proofs.judge.first_bridge.Given as goal

abbrev pub invariant-loop-node : goal.invariant-loop-node
invariant-loop-node l = (k : ℕ) → k < l.node-index → is_bridge_at l.topo.nodes (get_or l.node-items k 0) ≡ false
