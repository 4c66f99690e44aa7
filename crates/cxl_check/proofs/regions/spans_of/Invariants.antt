use Rattle.cxl_model.specs.Hosts.{as_system}
use Rattle.cxl_check.specs.inner.Listing.{AreSpans}
use Rattle.cxl_check.proofs.regions.spans_of.Given as goal

abbrev pub invariant-loop-slot : goal.invariant-loop-slot
invariant-loop-slot l = AreSpans (as_system l.host) l.w l.range l.slot l.spans.items
