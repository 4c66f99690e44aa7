use Rattle.cxl_deal.proofs.Digits.{dealt_slot-low, dealt_slot-upper}
use Rattle.cxl_deal.proofs.laws.slot_digits.Goals as goal

pub returns-clause-low : goal.returns-clause-low
returns-clause-low c = λ w h. dealt_slot-low c.parities_tell_raw_bits.ensures w h

pub returns-clause-upper : goal.returns-clause-upper
returns-clause-upper c = λ w h. dealt_slot-upper c.parities_tell_raw_bits.ensures w h
