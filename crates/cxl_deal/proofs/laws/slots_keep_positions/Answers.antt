use Rattle.cxl_deal.proofs.Digits.{position_kept}
use Rattle.cxl_deal.proofs.laws.slots_keep_positions.Goals as goal

pub returns : goal.returns
returns c = λ w base h is before whole from.
    position_kept c.parities_tell_raw_bits.ensures w h base is before whole from
