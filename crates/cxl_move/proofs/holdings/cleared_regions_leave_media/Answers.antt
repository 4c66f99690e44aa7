use Rattle.std.proofs.Common.{◌∷◌}
use Rattle.cxl_enc.proofs.Lists.{contains_tail}
use Rattle.cxl_move.specs.Holdings.{told_in}
use Rattle.cxl_move.proofs.Told.{PieceLaws, HoldingLaws, told_from_media, media_from_told, own_region}
use Rattle.cxl_move.proofs.Changed.{cleared_told, with_empty}
use Rattle.cxl_move.proofs.holdings.cleared_regions_leave_media.Goals as goal

pub returns-clause-gone : goal.returns-clause-gone
returns-clause-gone c = λ s one others old new are media cleared.
    let of_pieces : PieceLaws = record {
      each = c.pieces_are_carried_to_blocks.ensures.each;
      within = c.pieces_are_carried_to_blocks.ensures.within;
      one = c.pieces_are_carried_to_blocks.ensures.one;
      apart = c.pieces_are_carried_to_blocks.ensures.apart;
      inside = c.pieces_are_carried_to_blocks.ensures.inside;
      onto = c.pieces_are_carried_to_blocks.ensures.onto;
    } in
    let laws : HoldingLaws = record { pieces = of_pieces; shared = c.regions_share_no_byte.ensures.device } in
    media_from_told laws s others (told_in new) are.system
    (λ other there. own_region s (one ∷ others) are other (contains_tail one other others there))
    (cleared_told laws s one others are old new (told_from_media laws s (one ∷ others) (told_in old) are media) cleared)

pub returns-clause-empty : goal.returns-clause-empty
returns-clause-empty c = with_empty
