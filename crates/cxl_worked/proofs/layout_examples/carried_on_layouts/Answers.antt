use Rattle.std.proofs.Common.{refl, arith}
use Rattle.cxl_worked.proofs.layout_examples.carried_on_layouts.Goals as goal

pub returns-clause-one : goal.returns-clause-one
returns-clause-one c = record { from = omega arith; below = omega arith; place = (refl, refl) }

pub returns-clause-one_next_turn : goal.returns-clause-one_next_turn
returns-clause-one_next_turn c = record { from = omega arith; below = omega arith; place = (refl, refl) }

pub returns-clause-out_of_order : goal.returns-clause-out_of_order
returns-clause-out_of_order c = record { from = omega arith; below = omega arith; place = (refl, refl) }

pub returns-clause-twelve : goal.returns-clause-twelve
returns-clause-twelve c = record { from = omega arith; below = omega arith; place = (refl, refl) }

pub returns-clause-twelve_by_port : goal.returns-clause-twelve_by_port
returns-clause-twelve_by_port c = record { from = omega arith; below = omega arith; place = (refl, refl) }

pub returns-clause-pmem : goal.returns-clause-pmem
returns-clause-pmem c = record { from = omega arith; below = omega arith; place = (refl, refl) }
