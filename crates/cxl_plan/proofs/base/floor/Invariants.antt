use Rattle.std.proofs.Common.{ℕ, ◌<◌, ◌≤◌, get_or}
use Rattle.cxl_enc.specs.Limits.{address_limit}
use Rattle.cxl_legal.specs.Bases.{last_end}
use Rattle.cxl_plan.specs.inner.Judging.{without_windows}
use Rattle.cxl_plan.proofs.base.floor.Given as goal

abbrev pub invariant-loop-node : goal.invariant-loop-node
invariant-loop-node l =
    ((k : ℕ) → k < l.node-index → last_end (without_windows l.host.topo.now.nodes l.host.image.now) (get_or l.node-items k 0) ≤ l.floor)
    × ((bound : ℕ) → ((k : ℕ) → k < l.node-index → last_end (without_windows l.host.topo.now.nodes l.host.image.now) (get_or l.node-items k 0) ≤ bound) → l.floor ≤ bound)
    × (l.floor ≤ address_limit)
