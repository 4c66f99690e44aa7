use Rattle.cxl_model.proofs.CarryingPieces.{carried_aligned, carried_together}
use Rattle.cxl_model.proofs.regions.pieces_are_carried_whole.Goals as goal

pub returns-clause-aligned : goal.returns-clause-aligned
returns-clause-aligned c = λ s w found h endpoint dpa system is carries.
    carried_aligned c.spans_are_whole.ensures.start_aligned s w found h endpoint dpa system is carries

pub returns-clause-together : goal.returns-clause-together
returns-clause-together c = λ s w found h k endpoint dpa system is carries few.
    carried_together (record { slot = c.chunks_deal_whole.ensures.slot; offset = c.chunks_deal_whole.ensures.offset })
    (record { shares = c.spans_are_whole.ensures.shares; length_aligned = c.spans_are_whole.ensures.length_aligned }) s w found h k endpoint dpa system
    (record { tree = system.tree; laws = c.tree_laws.ensures.laws s.nodes system.tree }) is carries few
