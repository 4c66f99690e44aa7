use Rattle.std.proofs.Common.{ℕ, ◌*◌, ◌<◌, sym, subst}
use Rattle.cxl_num.specs.Interleave.{chunk_size}
use Rattle.cxl_deal.specs.Swaps.{swapped}
use Rattle.cxl_deal.proofs.Swapping.{plain_address}
use Rattle.cxl_deal.proofs.Digits.{dealt_slot-below}
use Rattle.cxl_deal.proofs.Places.{region_offset, region_within, gathered_from, gathered-slot, gathered-offset}
use Rattle.cxl_deal.proofs.laws.region_fills_slots.Goals as goal

pub returns-clause-slot : goal.returns-clause-slot
returns-clause-slot c = λ w h. dealt_slot-below c.parities_tell_raw_bits.ensures w h

pub returns-clause-lands : goal.returns-clause-lands
returns-clause-lands c = λ w n h from within. region_offset w n h from within

pub returns-clause-within : goal.returns-clause-within
returns-clause-within c = λ w n h from below. region_within w n h from below

pub returns-clause-hit : goal.returns-clause-hit
returns-clause-hit c = λ w n slot offset is below within.
    let h = swapped w (plain_address w slot offset) in
    let from = gathered_from c.raw_bits_are_replaced.ensures c.parities_tell_raw_bits.ensures w is slot offset below in
    let there = gathered-offset c.raw_bits_are_replaced.ensures c.parities_tell_raw_bits.ensures w is slot offset below in
    let inside = subst (λ (j : ℕ). j < n * chunk_size w.gran) (sym there) within in
    (h, from, region_within w n h from inside, gathered-slot c.raw_bits_are_replaced.ensures c.parities_tell_raw_bits.ensures w is slot offset below, there)
