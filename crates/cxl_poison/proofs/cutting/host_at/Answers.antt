use Rattle.std.proofs.Common.{◌≡◌, ℕ, ◌+◌, ◌/◌, ◌<◌, ◌≤◌, ◌^◌, sym, subst, arith}
use Rattle.std.proofs.lemmas.Option.{slice_get_within}
use Rattle.cxl_num.specs.Interleave.{chunk_size}
use Rattle.cxl_window.specs.Fields.{WindowFields}
use Rattle.cxl_deal.specs.Weaves.{WeaveFields, weave_ways, turns_end, dealt_slot, dealt_offset}
use Rattle.cxl_model.specs.declared.found.Found.{Found}
use Rattle.cxl_model.specs.Regions.{weave_fields}
use Rattle.cxl_poison.proofs.Filled.{Filled, turn_fits, carried}
use Rattle.cxl_poison.proofs.cutting.host_at.Goals as goal

pub weave_of-requires : goal.weave_of-requires
weave_of-requires c =
    let of = c.requires.span in
    record { region = (of.s, record { tree = of.system.tree; blocks = of.system.blocks; made = of.system.made }, of.region) }

pub gather-requires-clause-slot_below : goal.gather-requires-clause-slot_below
gather-requires-clause-slot_below c =
    let of = c.requires.span in
    let within = slice_get_within c.args.found.now.spans c.args.span.now.slot _ of.is.place in
    let ways = c.weaves_fill_their_regions.ensures.ways of.s c.args.window.now c.args.found.now of.system of.region in
    subst (λ (v : WeaveFields). c.args.span.now.slot < weave_ways v) (sym c.weave_of.ensures) (omega (arith, within, ways, of.region.slots))

pub gather-requires-clause-fits : goal.gather-requires-clause-fits
gather-requires-clause-fits c =
    let found : Found = c.args.found.now in
    let w : WindowFields = c.args.window.now in
    let of = c.requires.span in
    let filled : Filled found w = record {
      ways = c.weaves_fill_their_regions.ensures.ways of.s w found of.system of.region;
      shares = c.weaves_fill_their_regions.ensures.shares of.s w found of.system of.region;
      turns = c.weaves_fill_their_regions.ensures.turns of.s w found of.system of.region;
      some = c.regions_lie_in_windows.ensures.some of.s w found of.system of.region;
      low = c.regions_lie_in_windows.ensures.low of.s w found of.system of.region;
    } in
    subst (λ (v : WeaveFields). turns_end v (c.args.offset / chunk_size v.gran + 1) ≤ 2 ^ 52) (sym c.weave_of.ensures)
    (turn_fits found w filled c.args.offset (subst (λ (n : ℕ). c.args.offset < n) of.is.len c.requires.within))

pub returns : goal.returns
returns c = λ endpoint is.
    let found : Found = c.args.found.now in
    let w : WindowFields = c.args.window.now in
    let of = c.requires.span in
    let filled : Filled found w = record {
      ways = c.weaves_fill_their_regions.ensures.ways of.s w found of.system of.region;
      shares = c.weaves_fill_their_regions.ensures.shares of.s w found of.system of.region;
      turns = c.weaves_fill_their_regions.ensures.turns of.s w found of.system of.region;
      some = c.regions_lie_in_windows.ensures.some of.s w found of.system of.region;
      low = c.regions_lie_in_windows.ensures.low of.s w found of.system of.region;
    } in
    carried found w filled (c.region_fills_slots.ensures.within (weave_fields found w)) endpoint c.args.span.now c.args.offset c.gather.result is
    (subst (λ (n : ℕ). c.args.offset < n) is.len c.requires.within)
    (subst (λ (v : WeaveFields). v.base ≤ c.gather.result) c.weave_of.ensures c.gather.ensures.from)
    (subst (λ (v : WeaveFields). dealt_slot v c.gather.result ≡ c.args.span.now.slot) c.weave_of.ensures c.gather.ensures.slot)
    (subst (λ (v : WeaveFields). dealt_offset v c.gather.result ≡ c.args.offset) c.weave_of.ensures c.gather.ensures.offset)
