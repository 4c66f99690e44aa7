use Rattle.cxl_deal.proofs.Digits.{entry_kept}
use Rattle.cxl_deal.proofs.laws.slots_keep_entries.Goals as goal

pub returns : goal.returns
returns c = λ w h q p m divides.
    entry_kept c.parities_tell_raw_bits.ensures w h q p m c.remainders_keep_digits.ensures divides
