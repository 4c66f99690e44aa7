use Rattle.std.proofs.Common.{◌∷◌}
use Rattle.std.specs.FinMap as map
use Rattle.cxl_model.specs.Contents.{Holding}
use Rattle.cxl_move.specs.Holdings.{told_in}
use Rattle.cxl_move.proofs.Told.{PieceLaws, HoldingLaws, told_from_media, media_from_told, regions_with}
use Rattle.cxl_move.proofs.Changed.{put_told}
use Rattle.cxl_move.proofs.holdings.put_pieces_are_contents.Goals as goal

pub returns : goal.returns
returns c = λ s one others blocks n endpoint block bytes are media at.
    let of_pieces : PieceLaws = record {
      each = c.pieces_are_carried_to_blocks.ensures.each;
      within = c.pieces_are_carried_to_blocks.ensures.within;
      one = c.pieces_are_carried_to_blocks.ensures.one;
      apart = c.pieces_are_carried_to_blocks.ensures.apart;
      inside = c.pieces_are_carried_to_blocks.ensures.inside;
      onto = c.pieces_are_carried_to_blocks.ensures.onto;
    } in
    let laws : HoldingLaws = record { pieces = of_pieces; shared = c.regions_share_no_byte.ensures.device } in
    let after : Holding = record one { contents = map.insert one.contents n bytes } in
    media_from_told laws s (after ∷ others) (told_in (map.insert blocks (endpoint, block) bytes)) are.system
    (regions_with s one others are after.contents)
    (put_told laws s one others are blocks n endpoint block bytes (told_from_media laws s (one ∷ others) (told_in blocks) are media) at)
