use Rattle.std.proofs.Common.{All}
use Rattle.cxl_model.specs.Hosts.{as_system}
use Rattle.cxl_model.specs.Accepted.{breaks}
use Rattle.cxl_check.specs.inner.Known.{IsKnown}
use Rattle.cxl_check.specs.inner.Listed.{AreSpotsBefore}
use Rattle.cxl_check.proofs.places.rule_spots.Given as goal

-- the places of the nodes so far
abbrev pub invariant-loop-node : goal.invariant-loop-node
invariant-loop-node l = record {
  met : All (IsKnown (as_system l.host)) l.met.items;
  spots : AreSpotsBefore (breaks (as_system l.host) l.rule) l.rule l.node 0 l.spots.items;
}
