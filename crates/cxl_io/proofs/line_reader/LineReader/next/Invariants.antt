use Rattle.std.proofs.Common.{◌≡◌, ◌+◌, ◌-◌, ◌≤◌, []}
use Rattle.cxl_enc.specs.Faults.{LeavesCount}
use Rattle.cxl_io.specs.Reader.{script_limit, HoldsLine}
use Rattle.cxl_io.proofs.Reading.{IsReading}
use Rattle.cxl_io.proofs.line_reader.LineReader.next.Given as goal

-- a piece of a line is passed
abbrev pub invariant-turns : goal.invariant-turns
invariant-turns g l = record {
  so_far : IsReading l.fn.self l.self (g.S.Source.state l.fn.source) (g.S.Source.state l.source);
  counts : (g.S.Source.state l.fn.source).faults ≤ (g.S.Source.state l.source).faults;
  alone : (g.S.Source.state l.source).counts_failures_alone ≡ (g.S.Source.state l.fn.source).counts_failures_alone;
  unswallowed : LeavesCount (g.S.Source.state l.fn.source).counts_failures_alone (g.S.Source.state l.fn.source).faults (g.S.Source.state l.source).faults;
  first : HoldsLine l.fn.self → (g.S.Source.state l.source ≡ g.S.Source.state l.fn.source) × (l.self ≡ record l.fn.self { line = [] });
}

abbrev pub decreases-turns : goal.decreases-turns
decreases-turns g l = script_limit + 1 - l.self.taken
