use Rattle.cxl_deal.proofs.Places.{same_address}
use Rattle.cxl_deal.proofs.laws.place_tells_address.Goals as goal

pub returns : goal.returns
returns c = λ w h i is h_from i_from slots offsets. same_address c.raw_bits_are_replaced.ensures c.parities_tell_raw_bits.ensures w is h i h_from i_from slots offsets
