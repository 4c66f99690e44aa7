use Rattle.cxl_move.specs.Holdings.{told_in}
use Rattle.cxl_move.proofs.Told.{PieceLaws, HoldingLaws, told_from_media}
use Rattle.cxl_move.proofs.holdings.blocks_hold_their_pieces.Goals as goal

pub returns : goal.returns
returns c = λ s holdings one blocks n endpoint block are media there at.
    let of_pieces : PieceLaws = record {
      each = c.pieces_are_carried_to_blocks.ensures.each;
      within = c.pieces_are_carried_to_blocks.ensures.within;
      one = c.pieces_are_carried_to_blocks.ensures.one;
      apart = c.pieces_are_carried_to_blocks.ensures.apart;
      inside = c.pieces_are_carried_to_blocks.ensures.inside;
      onto = c.pieces_are_carried_to_blocks.ensures.onto;
    } in
    let laws : HoldingLaws = record { pieces = of_pieces; shared = c.regions_share_no_byte.ensures.device } in
    (told_from_media laws s holdings (told_in blocks) are media).each one n endpoint block there at
