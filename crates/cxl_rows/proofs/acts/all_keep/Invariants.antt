use Rattle.cxl_session.specs.Standing.{Stands}
use Rattle.cxl_rows.proofs.acts.all_keep.Given as goal

abbrev pub invariant-loop-row : goal.invariant-loop-row
invariant-loop-row g l = Stands l.session (g.R.Regs.state l.regs) (g.M.Media.state l.media)
