use Rattle.cxl_deal.proofs.Places.{moved-slot, moved-offset}
use Rattle.cxl_deal.proofs.laws.chunks_deal_whole.Goals as goal

pub returns-clause-slot : goal.returns-clause-slot
returns-clause-slot c = λ w h d is from within. moved-slot c.raw_bits_are_replaced.ensures c.parities_tell_raw_bits.ensures w is h d from within

pub returns-clause-offset : goal.returns-clause-offset
returns-clause-offset c = λ w h d is from within. moved-offset c.raw_bits_are_replaced.ensures c.parities_tell_raw_bits.ensures w is h d from within
