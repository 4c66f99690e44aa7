use Rattle.std.specs.Prelude.{All}
use Rattle.cxl_model.specs.Hosts.{as_system}
use Rattle.cxl_model.specs.Accepted.{breaks}
use Rattle.cxl_check.specs.inner.Found.{IsFoundAmong}
use Rattle.cxl_check.specs.inner.Known.{IsKnown}
use Rattle.cxl_check.proofs.ranges.ranges_breach.Given as goal

abbrev pub invariant-loop-node : goal.invariant-loop-node
invariant-loop-node l = record {
  met : All (IsKnown (as_system l.host)) l.met.items;
  found : IsFoundAmong (breaks (as_system l.host)) l.node l.first;
}
