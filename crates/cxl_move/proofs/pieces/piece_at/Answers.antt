use Rattle.std.proofs.Common.{◌≡◌, ℕ, ◌+◌, ◌-◌, ◌*◌, ◌/◌, ◌%◌, ◌≤◌, ◌∙◌, sym, ap, subst, arith}
use Rattle.std.proofs.lemmas.Option.{slice_get_within}
use Rattle.cxl_enc.specs.Limits.{address_limit}
use Rattle.cxl_num.specs.Interleave.{chunk_size}
use Rattle.cxl_window.specs.Fields.{WindowFields}
use Rattle.cxl_deal.specs.Weaves.{WeaveFields, weave_ways, turns_end, dealt_slot, dealt_offset}
use Rattle.cxl_model.specs.declared.found.Found.{Found}
use Rattle.cxl_model.specs.Regions.{weave_fields, Carries}
use Rattle.cxl_move.proofs.Dealt.{WovenLaws, turn_fits, gathered_carries}
use Rattle.cxl_move.proofs.pieces.piece_at.Goals as goal

pub block_byte-requires : goal.block_byte-requires
block_byte-requires c = let r = c.requires.region in (r.0, r.1, (c.args.side.now.window.now, r.2))

pub returns-in_err-byte-clause-none : goal.returns-in_err-byte-clause-none
returns-in_err-byte-clause-none c =
    let found : Found = c.args.side.now.found.now in
    let r = c.requires.region in
    rw c.from_residual.ensures
    (λ n at. c.in_err-byte.ensures.none (c.bytes_are_carried_one_to_one.ensures.inside r.0 c.args.side.now.window.now found (found.base + 256 * n) c.args.at.ep (256 * c.args.at.block) r.1 r.2 at))

pub weave_of-weave-requires : goal.weave_of-weave-requires
weave_of-weave-requires c =
    let r = c.requires.region in
    record { region = (r.0, record { tree = r.1.tree; blocks = r.1.blocks; made = r.1.made }, r.2) }

pub gather-h-requires-clause-slot_below : goal.gather-h-requires-clause-slot_below
gather-h-requires-clause-slot_below c =
    let found : Found = c.args.side.now.found.now in
    let r = c.requires.region in
    let byte = c.in_ok-byte.ensures.some in
    let within = slice_get_within found.spans c.in_ok-byte.byte.slot byte.place byte.there in
    let ways = c.weaves_fill_their_regions.ensures.ways r.0 c.args.side.now.window.now found r.1 r.2 in
    omega (arith, within, ways, r.2.slots, ap (λ (v : WeaveFields). weave_ways v) c.weave_of-weave.ensures)

pub overflow_sub-result : goal.overflow_sub-result
overflow_sub-result c = omega (arith, c.gather-h.ensures.from, ap (λ (v : WeaveFields). v.base) c.weave_of-weave.ensures)

pub gather-h-requires-clause-fits : goal.gather-h-requires-clause-fits
gather-h-requires-clause-fits c =
    let found : Found = c.args.side.now.found.now in
    let w : WindowFields = c.args.side.now.window.now in
    let r = c.requires.region in
    let laws : WovenLaws found w = record {
      apart = λ a b p q. c.slots_are_endpoints.ensures.apart r.0 w found a b p q r.1 r.2;
      onto = λ endpoint dpa. c.bytes_are_carried_one_to_one.ensures.onto r.0 w found endpoint dpa r.1 r.2;
      lands = c.region_fills_slots.ensures.lands (weave_fields found w);
      turns = c.weaves_fill_their_regions.ensures.turns r.0 w found r.1 r.2;
      low = c.regions_lie_in_windows.ensures.low r.0 w found r.1 r.2;
    } in
    subst (λ (v : WeaveFields). turns_end v (c.in_ok-byte.byte.offset / chunk_size v.gran + 1) ≤ address_limit) (sym c.weave_of-weave.ensures)
    (turn_fits found w laws c.args.at.ep (256 * c.args.at.block) c.in_ok-byte.byte.slot c.in_ok-byte.byte.offset c.in_ok-byte.ensures.some)

pub returns-clause-some : goal.returns-clause-some
returns-clause-some c =
    let found : Found = c.args.side.now.found.now in
    let w : WindowFields = c.args.side.now.window.now in
    let r = c.requires.region in
    let laws : WovenLaws found w = record {
      apart = λ a b p q. c.slots_are_endpoints.ensures.apart r.0 w found a b p q r.1 r.2;
      onto = λ endpoint dpa. c.bytes_are_carried_one_to_one.ensures.onto r.0 w found endpoint dpa r.1 r.2;
      lands = c.region_fills_slots.ensures.lands (weave_fields found w);
      turns = c.weaves_fill_their_regions.ensures.turns r.0 w found r.1 r.2;
      low = c.regions_lie_in_windows.ensures.low r.0 w found r.1 r.2;
    } in
    let h : ℕ = c.gather-h.result in
    let byte = c.in_ok-byte.byte in
    let carries : Carries found w h c.args.at.ep (256 * c.args.at.block) =
    gathered_carries found w laws c.args.at.ep (256 * c.args.at.block) byte.slot byte.offset c.in_ok-byte.ensures.some h
    (subst (λ (v : WeaveFields). (i : ℕ) → v.base ≤ i → dealt_slot v i ≡ byte.slot → dealt_offset v i ≡ byte.offset → i ≡ h) c.weave_of-weave.ensures c.gather-h.ensures.only) in
    let even : (h - found.base) % 256 ≡ 0 = sym (c.pieces_are_carried_whole.ensures.aligned r.0 w found h c.args.at.ep (256 * c.args.at.block) r.1 r.2 carries) ∙ omega arith in
    let from = carries.from in
    let whole : h ≡ found.base + 256 * ((h - found.base) / 256) = omega (arith, from, even) in
    subst (λ (x : ℕ). Carries found w x c.args.at.ep (256 * c.args.at.block)) whole carries
