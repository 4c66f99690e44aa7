use Rattle.std.proofs.Common.{◌≡◌, ℕ, ◌+◌, ◌/◌, ◌≤◌, sym, ap, subst, arith}
use Rattle.std.proofs.lemmas.Option.{slice_get_within}
use Rattle.cxl_enc.specs.Limits.{address_limit}
use Rattle.cxl_num.specs.Interleave.{chunk_size}
use Rattle.cxl_window.specs.Fields.{WindowFields}
use Rattle.cxl_deal.specs.Weaves.{WeaveFields, weave_ways, turns_end, dealt_slot, dealt_offset}
use Rattle.cxl_model.specs.declared.found.Found.{Found}
use Rattle.cxl_model.specs.Regions.{weave_fields}
use Rattle.cxl_move.proofs.Dealt.{WovenLaws, turn_fits, gathered_carries}
use Rattle.cxl_move.proofs.upward.carried_address.Goals as goal

pub gather-requires-clause-slot_below : goal.gather-requires-clause-slot_below
gather-requires-clause-slot_below c =
    let found : Found = c.args.found.now in
    let w : WindowFields = c.requires.1 in
    let is = c.requires.2 in
    let byte = c.in_ok-byte.ensures.some in
    let low = slice_get_within found.spans c.in_ok-byte.byte.slot byte.place byte.there in
    let slots = is.region.slots in
    let ways = c.weaves_fill_their_regions.ensures.ways c.requires.0 w found is.system is.region in
    let same : weave_ways c.args.weave.now ≡ weave_ways (weave_fields found w) = ap weave_ways is.dealt in
    omega (arith, low, slots, ways, same)

pub gather-requires-clause-fits : goal.gather-requires-clause-fits
gather-requires-clause-fits c =
    let found : Found = c.args.found.now in
    let s = c.requires.0 in
    let w : WindowFields = c.requires.1 in
    let is = c.requires.2 in
    let laws : WovenLaws found w = record {
      apart = λ a b p q. c.slots_are_endpoints.ensures.apart s w found a b p q is.system is.region;
      onto = λ endpoint dpa. c.bytes_are_carried_one_to_one.ensures.onto s w found endpoint dpa is.system is.region;
      lands = c.region_fills_slots.ensures.lands (weave_fields found w);
      turns = c.weaves_fill_their_regions.ensures.turns s w found is.system is.region;
      low = c.regions_lie_in_windows.ensures.low s w found is.system is.region;
    } in
    subst (λ (v : WeaveFields). turns_end v (c.in_ok-byte.byte.offset / chunk_size v.gran + 1) ≤ address_limit) (sym is.dealt)
    (turn_fits found w laws c.args.endpoint c.args.dpa c.in_ok-byte.byte.slot c.in_ok-byte.byte.offset c.in_ok-byte.ensures.some)

pub returns-clause-some : goal.returns-clause-some
returns-clause-some c = λ s w is.
    let found : Found = c.args.found.now in
    let laws : WovenLaws found w = record {
      apart = λ a b p q. c.slots_are_endpoints.ensures.apart s w found a b p q is.system is.region;
      onto = λ endpoint dpa. c.bytes_are_carried_one_to_one.ensures.onto s w found endpoint dpa is.system is.region;
      lands = c.region_fills_slots.ensures.lands (weave_fields found w);
      turns = c.weaves_fill_their_regions.ensures.turns s w found is.system is.region;
      low = c.regions_lie_in_windows.ensures.low s w found is.system is.region;
    } in
    let h : ℕ = c.gather.result in
    let byte = c.in_ok-byte.byte in
    gathered_carries found w laws c.args.endpoint c.args.dpa byte.slot byte.offset c.in_ok-byte.ensures.some h
    (subst (λ (v : WeaveFields). (i : ℕ) → v.base ≤ i → dealt_slot v i ≡ byte.slot → dealt_offset v i ≡ byte.offset → i ≡ h) is.dealt c.gather.ensures.only)

pub span_byte-requires : goal.span_byte-requires
span_byte-requires c = (c.requires.0, c.requires.2.system, (c.requires.1, c.requires.2.region))
