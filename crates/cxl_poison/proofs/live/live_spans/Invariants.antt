use Rattle.cxl_poison.proofs.LiveLists.{AreSpansTo}
use Rattle.cxl_poison.proofs.live.live_spans.Given as goal

-- the spans of the first regions
abbrev pub invariant-loop-region : goal.invariant-loop-region
invariant-loop-region l = AreSpansTo l.live l.endpoint l.region l.spans.items
