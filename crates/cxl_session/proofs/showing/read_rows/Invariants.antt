use Rattle.std.proofs.Common.{◌≤◌, length}
use Rattle.std.specs.Vec.{vec_capacity}
use Rattle.cxl_session.proofs.Shows.{HasReadRows}
use Rattle.cxl_session.proofs.showing.read_rows.Given as goal

abbrev pub invariant-loop-row : goal.invariant-loop-row
invariant-loop-row g l = record {
  rows : HasReadRows l.rows l.row-index l.shown.items (g.R.Regs.state l.fn.regs) (g.R.Regs.state l.regs);
  room : length l.rows ≤ vec_capacity l.shown;
}
