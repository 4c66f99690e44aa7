use Rattle.std.proofs.Common.{◌+◌, ◌-◌}
use Rattle.cxl_session.proofs.Stores.{StoreLaws, in_one_block, keys_differ, stored_one, stored_two}
use Rattle.cxl_session.proofs.storing.parts_are_answers.Goals as goal

pub returns-clause-within : goal.returns-clause-within
returns-clause-within c = λ s w found h ep dpa len system region carries some fits. in_one_block (h - found.base) dpa len (c.bytes_lie_in_pieces.ensures.offset s w found h ep dpa system region carries) some fits

pub returns-clause-apart : goal.returns-clause-apart
returns-clause-apart c = λ s w found h k ep dpa other place system region carries further ends.
    keys_differ found w h k ep dpa other place (λ n i endpoint block. c.pieces_are_carried_to_blocks.ensures.apart s w found n i endpoint block system region)
    (c.bytes_lie_in_pieces.ensures.block s w found h ep dpa system region carries) (c.bytes_lie_in_pieces.ensures.block s w found (h + k) other place system region further) carries.from ends

pub returns-clause-one : goal.returns-clause-one
returns-clause-one c = λ session old new m store region ep dpa reply holds found fits small carries within puts.
    let laws : StoreLaws = record {
      count = c.blocks_are_pieces.ensures.all;
      held = c.blocks_hold_their_pieces.ensures;
      put = c.put_pieces_are_contents.ensures;
      turns = c.weaves_fill_their_regions.ensures.turns;
      block = c.bytes_lie_in_pieces.ensures.block;
      offset = c.bytes_lie_in_pieces.ensures.offset;
    } in
    stored_one laws session old m holds store region found fits small new reply ep dpa carries within puts

pub returns-clause-two : goal.returns-clause-two
returns-clause-two c = λ session old new m store region ep dpa other place front back reply holds found fits small cut ends some few carries further puts.
    let laws : StoreLaws = record {
      count = c.blocks_are_pieces.ensures.all;
      held = c.blocks_hold_their_pieces.ensures;
      put = c.put_pieces_are_contents.ensures;
      turns = c.weaves_fill_their_regions.ensures.turns;
      block = c.bytes_lie_in_pieces.ensures.block;
      offset = c.bytes_lie_in_pieces.ensures.offset;
    } in
    stored_two laws session old m holds store region found fits small new reply ep dpa other place front back cut ends some few carries further puts
