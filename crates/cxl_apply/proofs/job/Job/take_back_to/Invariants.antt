use Rattle.cxl_apply.proofs.LoopJobs.{GoesBack}
use Rattle.cxl_apply.proofs.job.Job.take_back_to.Given as goal

abbrev pub invariant-loop-self : goal.invariant-loop-self
invariant-loop-self g l = GoesBack l.downto l.fn.self l.self l.fn.image l.image (g.R.Regs.state l.fn.regs) (g.R.Regs.state l.regs)

abbrev pub decreases-loop-self : goal.decreases-loop-self
decreases-loop-self g l = l.self.done
