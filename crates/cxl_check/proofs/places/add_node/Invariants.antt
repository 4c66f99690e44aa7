use Rattle.std.proofs.Common.{All}
use Rattle.cxl_model.specs.Hosts.{as_system}
use Rattle.cxl_model.specs.Accepted.{breaks}
use Rattle.cxl_check.specs.inner.Known.{IsKnown}
use Rattle.cxl_check.specs.inner.Listed.{AreSpotsBefore}
use Rattle.cxl_check.proofs.places.add_node.Given as goal

-- the places before decoder i
abbrev pub invariant-loop-i : goal.invariant-loop-i
invariant-loop-i l = record {
  met : All (IsKnown (as_system l.host)) l.met.items;
  spots : AreSpotsBefore (breaks (as_system l.host) l.rule) l.rule l.node l.i l.spots.items;
}
