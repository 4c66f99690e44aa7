use Rattle.cxl_walk.proofs.marking.+mark_way.Given as goal

abbrev pub decreases-mark_way : goal.decreases-mark_way
decreases-mark_way l = l.node
