use Rattle.std.specs.Prelude.{All}
use Rattle.cxl_model.specs.Hosts.{as_system}
use Rattle.cxl_model.specs.Accepted.{breaks}
use Rattle.cxl_check.specs.inner.Found.{IsFoundWithin}
use Rattle.cxl_check.specs.inner.Known.{IsKnown}
use Rattle.cxl_check.proofs.ranges.node_breach.Given as goal

abbrev pub invariant-loop-i : goal.invariant-loop-i
invariant-loop-i l = record {
  met : All (IsKnown (as_system l.host)) l.met.items;
  found : IsFoundWithin (breaks (as_system l.host)) l.node l.i l.first;
}
