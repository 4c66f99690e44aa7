use Rattle.std.proofs.Common.{◌≡◌, ◌*◌, ◌^◌, ◌≤◌, take, sum_by}
use Rattle.cxl_span.specs.Spans.{span_step}
use Rattle.cxl_session.proofs.Served.{HasServed}
use Rattle.cxl_session.proofs.session.Session.places_named.Given as goal

-- the places that the first decoders give, and what those skip and take of the device
abbrev pub invariant-loop-i : goal.invariant-loop-i
invariant-loop-i l = record {
  served : HasServed l.self l.block.decoders l.records l.i l.places.items;
  taken : l.taken ≡ sum_by span_step (take l.i l.block.decoders);
  small : l.taken ≤ l.i * 2 ^ 65;
}
