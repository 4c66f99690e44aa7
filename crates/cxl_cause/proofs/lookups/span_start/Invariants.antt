use Rattle.std.proofs.Common.{◌≡◌, ◌*◌, ◌^◌, ◌≤◌, take, sum_by}
use Rattle.cxl_span.specs.Spans.{span_step}
use Rattle.cxl_cause.proofs.lookups.span_start.Given as goal

abbrev pub invariant-loop-j : goal.invariant-loop-j
invariant-loop-j l = record {
  value : l.taken ≡ sum_by span_step (take l.j l.block.decoders);
  small : l.taken ≤ l.j * 2 ^ 65;
}
