use Rattle.std.proofs.Common.{◌≡◌, ◌≤◌, map}
use Rattle.cxl_enc.specs.Faults.{LeavesCount}
use Rattle.cxl_reply.specs.Plans.{found_text}
use Rattle.cxl_commands.proofs.InBlocks.{IsInBlocks}
use Rattle.cxl_commands.proofs.commands.check.write_regions.Given as goal

-- the lines of the regions so far are written or in the block
abbrev pub invariant-loop-region : goal.invariant-loop-region
invariant-loop-region g l = record {
  blocks : IsInBlocks (map (found_text l.topo.nodes) l.regions) l.region-index l.lines.block.items (g.K.Sink.state l.fn.out) (g.K.Sink.state l.out);
  counts : (g.K.Sink.state l.fn.out).faults ≤ (g.K.Sink.state l.out).faults;
  alone : (g.K.Sink.state l.out).counts_failures_alone ≡ (g.K.Sink.state l.fn.out).counts_failures_alone;
  unswallowed : LeavesCount (g.K.Sink.state l.fn.out).counts_failures_alone (g.K.Sink.state l.fn.out).faults (g.K.Sink.state l.out).faults;
}
