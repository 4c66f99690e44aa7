use Rattle.cxl_session.specs.Standing.{Stands}
use Rattle.cxl_rows.proofs.acts.replies.Given as goal

abbrev pub invariant-loop-line : goal.invariant-loop-line
invariant-loop-line g l = Stands l.session (g.R.Regs.state l.regs) (g.M.Media.state l.media)
