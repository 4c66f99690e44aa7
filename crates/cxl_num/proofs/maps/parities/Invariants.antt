use Rattle.cxl_num.proofs.ParitySums.{IsSumFrom}
use Rattle.cxl_num.proofs.maps.parities.Given as goal

abbrev pub invariant-loop-i : goal.invariant-loop-i
invariant-loop-i l = IsSumFrom l.maps l.h l.bits l.i l.sum
