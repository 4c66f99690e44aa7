use Rattle.cxl_move.proofs.ReadParts.{lies_in_piece}
use Rattle.cxl_move.proofs.parts.bytes_lie_in_pieces.Goals as goal

pub returns-clause-block : goal.returns-clause-block
returns-clause-block c = λ s w found h endpoint dpa system is.
    lies_in_piece found w (λ h. c.bytes_are_carried_one_to_one.ensures.each s w found h system is) (c.carries_where_chain_ends.ensures.one found w)
    (λ h endpoint dpa. c.pieces_are_carried_whole.ensures.aligned s w found h endpoint dpa system is)
    (λ h k endpoint dpa. c.pieces_are_carried_whole.ensures.together s w found h k endpoint dpa system is) h endpoint dpa

pub returns-clause-offset : goal.returns-clause-offset
returns-clause-offset c = c.pieces_are_carried_whole.ensures.aligned
