use Rattle.cxl_walk.proofs.above.+put_steps.Given as goal

abbrev pub decreases-put_steps : goal.decreases-put_steps
decreases-put_steps l = l.node
