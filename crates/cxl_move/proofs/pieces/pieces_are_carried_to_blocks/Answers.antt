use Rattle.std.proofs.Common.{◌+◌, ◌*◌}
use Rattle.cxl_move.proofs.PieceLaws.{CarryLaws, piece_each, piece_within, piece_one, piece_apart, piece_onto}
use Rattle.cxl_move.proofs.pieces.pieces_are_carried_to_blocks.Goals as goal

pub returns-clause-each : goal.returns-clause-each
returns-clause-each c = λ s w found n system is.
    let laws : CarryLaws found w = record {
      each = λ h. c.bytes_are_carried_one_to_one.ensures.each s w found h system is;
      one = c.carries_where_chain_ends.ensures.one found w;
      apart = λ h other endpoint dpa. c.bytes_are_carried_one_to_one.ensures.apart s w found h other endpoint dpa system is;
      inside = λ h endpoint dpa. c.bytes_are_carried_one_to_one.ensures.inside s w found h endpoint dpa system is;
      onto = λ endpoint dpa. c.bytes_are_carried_one_to_one.ensures.onto s w found endpoint dpa system is;
      aligned = λ h endpoint dpa. c.pieces_are_carried_whole.ensures.aligned s w found h endpoint dpa system is;
      together = λ h k endpoint dpa. c.pieces_are_carried_whole.ensures.together s w found h k endpoint dpa system is;
    } in
    piece_each found w laws n

pub returns-clause-within : goal.returns-clause-within
returns-clause-within c = λ s w found n endpoint block system is.
    let laws : CarryLaws found w = record {
      each = λ h. c.bytes_are_carried_one_to_one.ensures.each s w found h system is;
      one = c.carries_where_chain_ends.ensures.one found w;
      apart = λ h other endpoint dpa. c.bytes_are_carried_one_to_one.ensures.apart s w found h other endpoint dpa system is;
      inside = λ h endpoint dpa. c.bytes_are_carried_one_to_one.ensures.inside s w found h endpoint dpa system is;
      onto = λ endpoint dpa. c.bytes_are_carried_one_to_one.ensures.onto s w found endpoint dpa system is;
      aligned = λ h endpoint dpa. c.pieces_are_carried_whole.ensures.aligned s w found h endpoint dpa system is;
      together = λ h k endpoint dpa. c.pieces_are_carried_whole.ensures.together s w found h k endpoint dpa system is;
    } in
    piece_within found w laws n endpoint block

pub returns-clause-one : goal.returns-clause-one
returns-clause-one c = λ s w found n endpoint block other place system is.
    let laws : CarryLaws found w = record {
      each = λ h. c.bytes_are_carried_one_to_one.ensures.each s w found h system is;
      one = c.carries_where_chain_ends.ensures.one found w;
      apart = λ h other endpoint dpa. c.bytes_are_carried_one_to_one.ensures.apart s w found h other endpoint dpa system is;
      inside = λ h endpoint dpa. c.bytes_are_carried_one_to_one.ensures.inside s w found h endpoint dpa system is;
      onto = λ endpoint dpa. c.bytes_are_carried_one_to_one.ensures.onto s w found endpoint dpa system is;
      aligned = λ h endpoint dpa. c.pieces_are_carried_whole.ensures.aligned s w found h endpoint dpa system is;
      together = λ h k endpoint dpa. c.pieces_are_carried_whole.ensures.together s w found h k endpoint dpa system is;
    } in
    piece_one found w laws n endpoint block other place

pub returns-clause-apart : goal.returns-clause-apart
returns-clause-apart c = λ s w found n other endpoint block system is.
    let laws : CarryLaws found w = record {
      each = λ h. c.bytes_are_carried_one_to_one.ensures.each s w found h system is;
      one = c.carries_where_chain_ends.ensures.one found w;
      apart = λ h other endpoint dpa. c.bytes_are_carried_one_to_one.ensures.apart s w found h other endpoint dpa system is;
      inside = λ h endpoint dpa. c.bytes_are_carried_one_to_one.ensures.inside s w found h endpoint dpa system is;
      onto = λ endpoint dpa. c.bytes_are_carried_one_to_one.ensures.onto s w found endpoint dpa system is;
      aligned = λ h endpoint dpa. c.pieces_are_carried_whole.ensures.aligned s w found h endpoint dpa system is;
      together = λ h k endpoint dpa. c.pieces_are_carried_whole.ensures.together s w found h k endpoint dpa system is;
    } in
    piece_apart found w laws n other endpoint block

pub returns-clause-inside : goal.returns-clause-inside
returns-clause-inside c = λ s w found n endpoint block system is at. c.bytes_are_carried_one_to_one.ensures.inside s w found (found.base + 256 * n) endpoint (256 * block) system is at

pub returns-clause-onto : goal.returns-clause-onto
returns-clause-onto c = λ s w found endpoint block system is.
    let laws : CarryLaws found w = record {
      each = λ h. c.bytes_are_carried_one_to_one.ensures.each s w found h system is;
      one = c.carries_where_chain_ends.ensures.one found w;
      apart = λ h other endpoint dpa. c.bytes_are_carried_one_to_one.ensures.apart s w found h other endpoint dpa system is;
      inside = λ h endpoint dpa. c.bytes_are_carried_one_to_one.ensures.inside s w found h endpoint dpa system is;
      onto = λ endpoint dpa. c.bytes_are_carried_one_to_one.ensures.onto s w found endpoint dpa system is;
      aligned = λ h endpoint dpa. c.pieces_are_carried_whole.ensures.aligned s w found h endpoint dpa system is;
      together = λ h k endpoint dpa. c.pieces_are_carried_whole.ensures.together s w found h k endpoint dpa system is;
    } in
    piece_onto found w laws endpoint block
