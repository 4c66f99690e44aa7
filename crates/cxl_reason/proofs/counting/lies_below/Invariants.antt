use Rattle.std.proofs.Common.{◌≡◌, ℕ, ◌<◌, get_or, false}
use Rattle.cxl_reason.specs.Reasons.{is_below}
use Rattle.cxl_reason.proofs.counting.lies_below.Given as goal

abbrev pub invariant-loop-uid : goal.invariant-loop-uid
invariant-loop-uid l = (k : ℕ) → k < l.uid-index → is_below l.host.topo.now.nodes (get_or l.targets k 0) l.node ≡ false
