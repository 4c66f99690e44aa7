use Rattle.std.proofs.Common.{◌≡◌, ℕ, ◌+◌, ◌%◌, ◌<◌, List, length, get_or, Some, sym, ap, subst, ◌∙◌, arith}
use Rattle.std.specs.Prelude.{slice_get}
use Rattle.std.proofs.lemmas.Option.{slice_get-get_or}
use Rattle.cxl_window.specs.Fields.{WindowFields}
use Rattle.cxl_model.specs.declared.found.Found.{Found}
use Rattle.cxl_model.specs.declared.found.Place.{Place}
use Rattle.cxl_model.specs.System.{System}
use Rattle.cxl_move.proofs.PieceLaws.{CarryLaws}
use Rattle.cxl_move.proofs.Aligned.{start_aligned, end_aligned}
use Rattle.cxl_move.proofs.Clearing.{scrubbed_more, cleared_all}
use Rattle.cxl_move.proofs.scrubbing.scrub_region.Goals as goal

slice_there : (found : Found) (spans : List Place) (slot : ℕ) (d : Place) → spans ≡ found.spans → slot < length spans → slice_get found.spans slot ≡ Some (get_or spans slot d)
slice_there found spans slot d same within = ap (λ (xs : List Place). slice_get xs slot) (sym same) ∙ slice_get-get_or spans slot d within

pub slot_length-length-requires : goal.slot_length-length-requires
slot_length-length-requires g c = c.requires

pub scrub-requires-clause-order : goal.scrub-requires-clause-order
scrub-requires-clause-order g c = omega arith

pub returns-clause-frames : goal.returns-clause-frames
returns-clause-frames g c = c.loop-place.invariant.frames

pub overflow_add-place : goal.overflow_add-place
overflow_add-place g c =
    let found : Found = c.args.found.now in
    let s : System = c.requires.0 in
    let w : WindowFields = c.requires.2.0 in
    let is = c.requires.2.1 in
    let d : Place = record { endpoint = 0; start = 0 } in
    let slot : ℕ = c.loop-place.place-index in
    let spans : List Place = c.items-spans.result.now in
    let place : Place = get_or spans slot d in
    let there : slice_get found.spans slot ≡ Some place = slice_there found spans slot d c.items-spans.ensures c.loop-place-test.true in
    omega (arith, c.slots_are_endpoints.ensures.low s w found slot place c.requires.1 is there, c.slot_length-length.ensures)

pub scrub-requires-clause-from : goal.scrub-requires-clause-from
scrub-requires-clause-from g c =
    let found : Found = c.args.found.now in
    let s : System = c.requires.0 in
    let w : WindowFields = c.requires.2.0 in
    let is = c.requires.2.1 in
    let d : Place = record { endpoint = 0; start = 0 } in
    let slot : ℕ = c.loop-place.place-index in
    let spans : List Place = c.items-spans.result.now in
    let place : Place = get_or spans slot d in
    let there : slice_get found.spans slot ≡ Some place = slice_there found spans slot d c.items-spans.ensures c.loop-place-test.true in
    let laws : CarryLaws found w = record {
      each = λ h. c.bytes_are_carried_one_to_one.ensures.each s w found h c.requires.1 is;
      one = c.carries_where_chain_ends.ensures.one found w;
      apart = λ h other endpoint dpa. c.bytes_are_carried_one_to_one.ensures.apart s w found h other endpoint dpa c.requires.1 is;
      inside = λ h endpoint dpa. c.bytes_are_carried_one_to_one.ensures.inside s w found h endpoint dpa c.requires.1 is;
      onto = λ endpoint dpa. c.bytes_are_carried_one_to_one.ensures.onto s w found endpoint dpa c.requires.1 is;
      aligned = λ h endpoint dpa. c.pieces_are_carried_whole.ensures.aligned s w found h endpoint dpa c.requires.1 is;
      together = λ h k endpoint dpa. c.pieces_are_carried_whole.ensures.together s w found h k endpoint dpa c.requires.1 is;
    } in
    start_aligned found w laws (λ a b p q. c.slots_are_endpoints.ensures.apart s w found a b p q c.requires.1 is) (c.weaves_fill_their_regions.ensures.shares s w found c.requires.1 is)
    (c.regions_lie_in_windows.ensures.some s w found c.requires.1 is) slot place there

pub scrub-requires-clause-to : goal.scrub-requires-clause-to
scrub-requires-clause-to g c =
    let found : Found = c.args.found.now in
    let s : System = c.requires.0 in
    let w : WindowFields = c.requires.2.0 in
    let is = c.requires.2.1 in
    let d : Place = record { endpoint = 0; start = 0 } in
    let slot : ℕ = c.loop-place.place-index in
    let spans : List Place = c.items-spans.result.now in
    let place : Place = get_or spans slot d in
    let there : slice_get found.spans slot ≡ Some place = slice_there found spans slot d c.items-spans.ensures c.loop-place-test.true in
    let laws : CarryLaws found w = record {
      each = λ h. c.bytes_are_carried_one_to_one.ensures.each s w found h c.requires.1 is;
      one = c.carries_where_chain_ends.ensures.one found w;
      apart = λ h other endpoint dpa. c.bytes_are_carried_one_to_one.ensures.apart s w found h other endpoint dpa c.requires.1 is;
      inside = λ h endpoint dpa. c.bytes_are_carried_one_to_one.ensures.inside s w found h endpoint dpa c.requires.1 is;
      onto = λ endpoint dpa. c.bytes_are_carried_one_to_one.ensures.onto s w found endpoint dpa c.requires.1 is;
      aligned = λ h endpoint dpa. c.pieces_are_carried_whole.ensures.aligned s w found h endpoint dpa c.requires.1 is;
      together = λ h k endpoint dpa. c.pieces_are_carried_whole.ensures.together s w found h k endpoint dpa c.requires.1 is;
    } in
    let whole = end_aligned found w laws (λ a b p q. c.slots_are_endpoints.ensures.apart s w found a b p q c.requires.1 is) (c.weaves_fill_their_regions.ensures.shares s w found c.requires.1 is)
    (c.regions_lie_in_windows.ensures.some s w found c.requires.1 is) slot place there in
    subst (λ (n : ℕ). (place.start + n) % 256 ≡ 0) (sym c.slot_length-length.ensures) whole

pub loop-place-preserved : goal.loop-place-preserved
loop-place-preserved g c = record {
  scrubbed =
      scrubbed_more c.slot_length-length.result c.items-spans.result.now c.loop-place.place-index (record { endpoint = 0; start = 0 }) (g.M.Media.state c.args.media.now).blocks (g.M.Media.state c.loop-place.media).blocks
      (g.M.Media.state c.scrub.new.self).blocks c.loop-place-test.true c.loop-place.invariant.scrubbed c.scrub.ensures.blocks;
  frames = c.scrub.ensures.frames ∙ c.loop-place.invariant.frames;
}

pub returns-clause-cleared : goal.returns-clause-cleared
returns-clause-cleared g c =
    cleared_all c.args.found.now c.slot_length-length.result c.loop-place.place-index c.items-spans.result.now (g.M.Media.state c.args.media.now).blocks (g.M.Media.state c.loop-place.media).blocks
    c.slot_length-length.ensures c.items-spans.ensures c.loop-place-test.false c.loop-place.invariant.scrubbed
