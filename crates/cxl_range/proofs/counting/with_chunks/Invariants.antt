use Rattle.std.proofs.Common.{◌-◌, ◌≤◌}
use Rattle.cxl_range.specs.inner.Woven.{AreCountsBefore}
use Rattle.cxl_range.proofs.counting.with_chunks.Given as goal

-- the counts so far
abbrev pub invariant-loop-at : goal.invariant-loop-at
invariant-loop-at l = record {
  from : l.weave.base ≤ l.at;
  up : l.at ≤ l.end;
  are : AreCountsBefore l.weave l.at l.counts;
}

abbrev pub decreases-loop-at : goal.decreases-loop-at
decreases-loop-at l = l.end - l.at
