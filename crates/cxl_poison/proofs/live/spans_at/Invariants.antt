use Rattle.cxl_poison.proofs.SpansAt.{AreSpansOf}
use Rattle.cxl_poison.proofs.live.spans_at.Given as goal

-- the spans at the first places
abbrev pub invariant-loop-place : goal.invariant-loop-place
invariant-loop-place l = AreSpansOf l.live l.endpoint l.places l.place-index l.spans.items
