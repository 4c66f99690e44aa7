use Rattle.cxl_move.specs.Holdings.{told_in}
use Rattle.cxl_move.proofs.Told.{PieceLaws, HoldingLaws, told_from_media}
use Rattle.cxl_move.proofs.BlockCounts.{blocks_counted, held_counted}
use Rattle.cxl_move.proofs.holdings.blocks_are_pieces.Goals as goal

pub returns-clause-all : goal.returns-clause-all
returns-clause-all c = λ s holdings blocks are media.
    let of_pieces : PieceLaws = record {
      each = c.pieces_are_carried_to_blocks.ensures.each;
      within = c.pieces_are_carried_to_blocks.ensures.within;
      one = c.pieces_are_carried_to_blocks.ensures.one;
      apart = c.pieces_are_carried_to_blocks.ensures.apart;
      inside = c.pieces_are_carried_to_blocks.ensures.inside;
      onto = c.pieces_are_carried_to_blocks.ensures.onto;
    } in
    let laws : HoldingLaws = record { pieces = of_pieces; shared = c.regions_share_no_byte.ensures.device } in
    blocks_counted laws s holdings blocks are media

pub returns-clause-one : goal.returns-clause-one
returns-clause-one c = λ s holdings one blocks pieces are media there held.
    let of_pieces : PieceLaws = record {
      each = c.pieces_are_carried_to_blocks.ensures.each;
      within = c.pieces_are_carried_to_blocks.ensures.within;
      one = c.pieces_are_carried_to_blocks.ensures.one;
      apart = c.pieces_are_carried_to_blocks.ensures.apart;
      inside = c.pieces_are_carried_to_blocks.ensures.inside;
      onto = c.pieces_are_carried_to_blocks.ensures.onto;
    } in
    let laws : HoldingLaws = record { pieces = of_pieces; shared = c.regions_share_no_byte.ensures.device } in
    held_counted laws s holdings blocks one pieces are (told_from_media laws s holdings (told_in blocks) are media) there held
