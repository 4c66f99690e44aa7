use Rattle.std.proofs.Common.{take, length, filter}
use Rattle.cxl_model.specs.Counts.{is_under}
use Rattle.cxl_plan.specs.inner.Uses.{AreCounted}
use Rattle.cxl_plan.proofs.used.count_all.Given as goal

abbrev pub invariant-loop-endpoint : goal.invariant-loop-endpoint
invariant-loop-endpoint l =
    AreCounted (λ n. length (filter (is_under l.topo.nodes n) (take l.endpoint-index l.endpoints))) (length l.topo.nodes) l.nodes.items l.counts.items
