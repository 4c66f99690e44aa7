use Rattle.cxl_session.proofs.Shows.{HasReadWords}
use Rattle.cxl_session.proofs.showing.read_row.Given as goal

abbrev pub invariant-loop-place : goal.invariant-loop-place
invariant-loop-place g l = HasReadWords l.row l.place l.words (g.R.Regs.state l.fn.regs) (g.R.Regs.state l.regs)
