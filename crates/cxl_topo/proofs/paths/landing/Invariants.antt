use Rattle.std.proofs.Common.{◌≡◌, ◌-◌, ◌<◌, length}
use Rattle.cxl_topo.specs.Tree.{landing_of}
use Rattle.cxl_topo.proofs.paths.landing.Given as goal

abbrev pub invariant-loop-at : goal.invariant-loop-at
invariant-loop-at l = record {
  below : l.at < length l.nodes;
  same : landing_of l.nodes l.at ≡ landing_of l.nodes l.i;
}

abbrev pub decreases-loop-at : goal.decreases-loop-at
decreases-loop-at l = length l.nodes - l.at
