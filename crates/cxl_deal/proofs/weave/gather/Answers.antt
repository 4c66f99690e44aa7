use Rattle.std.proofs.Common.{◌≡◌, ◌+◌, ◌*◌, ◌/◌, ◌%◌, ℕ, sym, ap, ◌∙◌, subst, arith}
use Rattle.cxl_num.specs.Interleave.{chunk_size}
use Rattle.cxl_deal.specs.Weaves.{WeaveFields, IsWeave, weave_ways, dealt_slot, dealt_offset}
use Rattle.cxl_deal.specs.WeaveInside.{fields_of}
use Rattle.cxl_deal.specs.Swaps.{swapped}
use Rattle.cxl_deal.proofs.Swapping.{plain_address}
use Rattle.cxl_deal.proofs.Places.{plain_below, gathered_from, gathered_below, gathered-slot, gathered-offset, gathered-only}
use Rattle.cxl_deal.proofs.weave.gather.Goals as goal

-- the address before the swap, by the fields w of a weave seen as v
plain-is : (w v : WeaveFields) (slot offset ways along : ℕ) → w ≡ v → ways ≡ weave_ways v
    → along ≡ (offset / chunk_size w.gran * ways + slot) * chunk_size w.gran + offset % chunk_size w.gran
    → w.base + along ≡ plain_address v slot offset
plain-is w v slot offset ways along view ways-is along-is =
    let g = chunk_size w.gran in
    let ways_too : ways ≡ weave_ways w = ways-is ∙ ap weave_ways (sym view) in
    ap (λ (j : ℕ). w.base + j) (along-is ∙ ap (λ (j : ℕ). (offset / g * j + slot) * g + offset % g) ways_too)
    ∙ omega arith
    ∙ ap (λ (u : WeaveFields). plain_address u slot offset) view

pub swap-requires : goal.swap-requires
swap-requires c =
    let v = c.args.weave.now in
    let is = subst IsWeave c.weave.view_is c.weave.invariant in
    rw (plain-is (fields_of c.weave.inside) v c.args.slot c.args.offset _ c.gather_along-along.result
    c.weave.view_is c.factors.ensures.ways c.gather_along-along.ensures)
    (plain_below c.raw_bits_are_replaced.ensures c.parities_tell_raw_bits.ensures v is c.args.slot c.args.offset c.requires.slot_below c.requires.fits)

-- the result is the swapped address
result-is : (c : goal.After-swap)
    → c.swap.result ≡ swapped c.args.weave.now (plain_address c.args.weave.now c.args.slot c.args.offset)
result-is c =
    let v = c.args.weave.now in
    c.swap.ensures
    ∙ ap (swapped v) (plain-is (fields_of c.weave.inside) v c.args.slot c.args.offset _ c.gather_along-along.result
    c.weave.view_is c.factors.ensures.ways c.gather_along-along.ensures)

-- what the weave keeps, of the value that clauses see
is_weave : (c : goal.After-swap) → IsWeave c.args.weave.now
is_weave c = subst IsWeave c.weave.view_is c.weave.invariant

pub returns-clause-from : goal.returns-clause-from
returns-clause-from c =
    rw (result-is c) (gathered_from c.raw_bits_are_replaced.ensures c.parities_tell_raw_bits.ensures c.args.weave.now (is_weave c) c.args.slot c.args.offset c.requires.slot_below)

pub returns-clause-below : goal.returns-clause-below
returns-clause-below c =
    rw (result-is c)
    (gathered_below c.raw_bits_are_replaced.ensures c.parities_tell_raw_bits.ensures c.args.weave.now (is_weave c) c.args.slot c.args.offset c.requires.slot_below c.requires.fits)

pub returns-clause-slot : goal.returns-clause-slot
returns-clause-slot c =
    ap (dealt_slot c.args.weave.now) (result-is c)
    ∙ gathered-slot c.raw_bits_are_replaced.ensures c.parities_tell_raw_bits.ensures c.args.weave.now (is_weave c) c.args.slot c.args.offset c.requires.slot_below

pub returns-clause-offset : goal.returns-clause-offset
returns-clause-offset c =
    ap (dealt_offset c.args.weave.now) (result-is c)
    ∙ gathered-offset c.raw_bits_are_replaced.ensures c.parities_tell_raw_bits.ensures c.args.weave.now (is_weave c) c.args.slot c.args.offset c.requires.slot_below

pub returns-clause-only : goal.returns-clause-only
returns-clause-only c = λ h from slot-is offset-is.
    gathered-only c.raw_bits_are_replaced.ensures c.parities_tell_raw_bits.ensures c.args.weave.now (is_weave c) c.args.slot c.args.offset h from slot-is offset-is
    ∙ sym (result-is c)
