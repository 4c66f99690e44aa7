use Rattle.cxl_apply.specs.Releases.{rows_of}
use Rattle.cxl_apply.proofs.Again.{accepted_again, enabled_again}
use Rattle.cxl_apply.proofs.laws.released_image_is_accepted.Goals as goal

pub returns-clause-accepted : goal.returns-clause-accepted
returns-clause-accepted c = λ s found system accepted unlocked last.
    accepted_again c.words_stand_for_decoder.ensures c.accepted_where_whole.ensures c.regions_stay.ensures.whole s found
    (record { are = system.blocks; count = system.caps.count; keeps = λ rule n i low. accepted.each rule n i; unlocked = unlocked; last = last }) accepted

pub returns-clause-enabled : goal.returns-clause-enabled
returns-clause-enabled c = λ s found enabled. enabled_again (rows_of s found) s.blocks enabled
