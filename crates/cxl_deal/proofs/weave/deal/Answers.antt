use Rattle.std.proofs.Common.{◌≡◌, ◌+◌, ◌-◌, ◌*◌, ◌/◌, ◌%◌, ◌≤◌, ◌<◌, ℕ, sym, ap, ◌∙◌, subst, arith}
use Rattle.cxl_enc.specs.Limits.{address_limit}
use Rattle.cxl_num.specs.Interleave.{chunk_size}
use Rattle.cxl_deal.specs.Weaves.{WeaveFields, weave_ways, dealt_slot, dealt_offset}
use Rattle.cxl_deal.specs.WeaveInside.{fields_of}
use Rattle.cxl_deal.specs.Swaps.{swapped}
use Rattle.cxl_deal.proofs.Swapping.{from-swapped, swapped-below, dealt_slot-from, dealt_offset-from}
use Rattle.cxl_deal.proofs.weave.deal.Goals as goal

-- by the fields w of a weave seen as v
swap-is : (w v : WeaveFields) (h s : ℕ) → w ≡ v → s ≡ swapped v h → s ≡ swapped w h
swap-is w v h s view s-is = s-is ∙ ap (λ (u : WeaveFields). swapped u h) (sym view)

from_base : (w v : WeaveFields) (h : ℕ) → w ≡ v → v.base ≤ h → w.base ≤ h
from_base w v h view from = subst (λ (u : WeaveFields). u.base ≤ h) (sym view) from

pub overflow_sub-along : goal.overflow_sub-along
overflow_sub-along c =
    let w = fields_of c.weave.inside in
    let from = from_base w c.args.weave.now c.args.h c.weave.view_is c.requires.from in
    rw (swap-is w c.args.weave.now c.args.h c.swap.result c.weave.view_is c.swap.ensures)
    (from-swapped c.raw_bits_are_replaced.ensures c.parities_tell_raw_bits.ensures w c.weave.invariant c.args.h from)

pub deal_along-requires-clause-below : goal.deal_along-requires-clause-below
deal_along-requires-clause-below c =
    let w = fields_of c.weave.inside in
    let below : swapped w c.args.h < address_limit = swapped-below c.raw_bits_are_replaced.ensures c.parities_tell_raw_bits.ensures w c.weave.invariant c.args.h c.requires.below in
    let is : c.swap.result ≡ swapped w c.args.h =
    swap-is w c.args.weave.now c.args.h c.swap.result c.weave.view_is c.swap.ensures in
    omega arith

pub returns-clause-slot : goal.returns-clause-slot
returns-clause-slot c =
    let w = fields_of c.weave.inside in
    let v = c.args.weave.now in
    let s = c.swap.result in
    let from = from_base w v c.args.h c.weave.view_is c.requires.from in
    c.deal_along.ensures.slot
    ∙ ap (λ (j : ℕ). (s - w.base) / chunk_size w.gran % j) (c.factors.ensures.ways
    ∙ ap weave_ways (sym c.weave.view_is))
    ∙ dealt_slot-from c.raw_bits_are_replaced.ensures c.parities_tell_raw_bits.ensures w c.weave.invariant c.args.h from s (swap-is w v c.args.h s c.weave.view_is c.swap.ensures)
    ∙ ap (λ (u : WeaveFields). dealt_slot u c.args.h) c.weave.view_is

pub returns-clause-offset : goal.returns-clause-offset
returns-clause-offset c =
    let w = fields_of c.weave.inside in
    let v = c.args.weave.now in
    let s = c.swap.result in
    let g = chunk_size w.gran in
    let from = from_base w v c.args.h c.weave.view_is c.requires.from in
    c.deal_along.ensures.offset
    ∙ ap (λ (j : ℕ). (s - w.base) / g / j * g + (s - w.base) % g) (c.factors.ensures.ways
    ∙ ap weave_ways (sym c.weave.view_is))
    ∙ dealt_offset-from c.raw_bits_are_replaced.ensures c.parities_tell_raw_bits.ensures w c.weave.invariant c.args.h from s (swap-is w v c.args.h s c.weave.view_is c.swap.ensures)
    ∙ ap (λ (u : WeaveFields). dealt_offset u c.args.h) c.weave.view_is
