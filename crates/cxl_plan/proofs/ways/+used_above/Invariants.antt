use Rattle.cxl_plan.proofs.ways.+used_above.Given as goal

abbrev pub decreases-used_above : goal.decreases-used_above
decreases-used_above l = l.node
