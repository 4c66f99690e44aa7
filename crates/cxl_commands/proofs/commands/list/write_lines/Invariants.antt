use Rattle.std.proofs.Common.{◌≡◌, ◌≤◌, length}
use Rattle.cxl_enc.specs.Faults.{LeavesCount}
use Rattle.cxl_commands.proofs.ListedTo.{IsListedTo}
use Rattle.cxl_commands.proofs.commands.list.write_lines.Given as goal

-- the lines of the records so far are written or in the block
abbrev pub invariant-loop-item : goal.invariant-loop-item
invariant-loop-item g l = record {
  listed : IsListedTo l.table.records l.records l.place l.lines.block.items (g.K.Sink.state l.fn.out) (g.K.Sink.state l.out);
  counts : (g.K.Sink.state l.fn.out).faults ≤ (g.K.Sink.state l.out).faults;
  alone : (g.K.Sink.state l.out).counts_failures_alone ≡ (g.K.Sink.state l.fn.out).counts_failures_alone;
  unswallowed : LeavesCount (g.K.Sink.state l.fn.out).counts_failures_alone (g.K.Sink.state l.fn.out).faults (g.K.Sink.state l.out).faults;
}

abbrev pub decreases-loop-item : goal.decreases-loop-item
decreases-loop-item g l = length l.records
