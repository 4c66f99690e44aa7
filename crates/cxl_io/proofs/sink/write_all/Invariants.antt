use Rattle.std.proofs.Common.{◌≡◌, ◌-◌, ◌≤◌, length, take}
use Rattle.cxl_enc.specs.Faults.{LeavesCount}
use Rattle.cxl_io.specs.Sink.{Takes}
use Rattle.cxl_io.proofs.sink.write_all.Given as goal

-- so many of the bytes are taken
abbrev pub invariant-loop-at : goal.invariant-loop-at
invariant-loop-at g l = record {
  within : l.at ≤ length l.bytes;
  taken : Takes (g.K.Sink.state l.fn.sink) (g.K.Sink.state l.sink) (take l.at l.bytes);
  counts : (g.K.Sink.state l.fn.sink).faults ≤ (g.K.Sink.state l.sink).faults;
  alone : (g.K.Sink.state l.sink).counts_failures_alone ≡ (g.K.Sink.state l.fn.sink).counts_failures_alone;
  unswallowed : LeavesCount (g.K.Sink.state l.fn.sink).counts_failures_alone (g.K.Sink.state l.fn.sink).faults (g.K.Sink.state l.sink).faults;
}

abbrev pub decreases-loop-at : goal.decreases-loop-at
decreases-loop-at g l = length l.bytes - l.at
