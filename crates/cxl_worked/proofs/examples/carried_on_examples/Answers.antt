use Rattle.std.proofs.Common.{refl, arith}
use Rattle.cxl_worked.proofs.examples.carried_on_examples.Goals as goal

pub returns-clause-last_of_chunk : goal.returns-clause-last_of_chunk
returns-clause-last_of_chunk c = record { from = omega arith; below = omega arith; place = (refl, refl) }

pub returns-clause-next_chunk : goal.returns-clause-next_chunk
returns-clause-next_chunk c = record { from = omega arith; below = omega arith; place = (refl, refl) }

pub returns-clause-fourth_slot : goal.returns-clause-fourth_slot
returns-clause-fourth_slot c = record { from = omega arith; below = omega arith; place = (refl, refl) }

pub returns-clause-next_turn : goal.returns-clause-next_turn
returns-clause-next_turn c = record { from = omega arith; below = omega arith; place = (refl, refl) }

pub returns-clause-by_map : goal.returns-clause-by_map
unfolding lib.Count.ones
returns-clause-by_map c = record { from = omega arith; below = omega arith; place = (refl, refl) }

pub returns-clause-by_map_in_thirds : goal.returns-clause-by_map_in_thirds
unfolding lib.Count.ones
returns-clause-by_map_in_thirds c = record { from = omega arith; below = omega arith; place = (refl, refl) }
