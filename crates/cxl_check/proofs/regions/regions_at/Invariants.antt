use Rattle.std.proofs.Common.{take}
use Rattle.std.specs.Prelude.{All}
use Rattle.cxl_model.specs.Hosts.{as_system}
use Rattle.cxl_check.specs.inner.Known.{IsKnown}
use Rattle.cxl_check.specs.inner.Listing.{AreListed}
use Rattle.cxl_check.proofs.regions.regions_at.Given as goal

abbrev pub invariant-loop-key : goal.invariant-loop-key
invariant-loop-key l = record {
  met : All (IsKnown (as_system l.host)) l.met.items;
  listed : AreListed (as_system l.host) (take l.key-index l.keys) l.regions.items;
}
