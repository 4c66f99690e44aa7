use Rattle.std.proofs.Common.{◌≡◌, ◌*◌, ◌^◌, ◌≤◌, true, take, sum_by}
use Rattle.cxl_regs.specs.Rules.{before}
use Rattle.cxl_span.specs.Spans.{span_step}
use Rattle.cxl_span.specs.inner.Least.{IsFoundBelow}
use Rattle.cxl_span.proofs.breach.block_breach.Given as goal

abbrev pub invariant-loop-i : goal.invariant-loop-i
invariant-loop-i l = record {
  taken : l.block.endpoint ≡ true → l.taken ≡ sum_by span_step (take l.i l.block.decoders);
  small : l.taken ≤ l.i * 2 ^ 65;
  below : l.below ≡ before l.block.decoders l.i;
  found : IsFoundBelow l.block l.ram l.pmem l.i l.first;
}
