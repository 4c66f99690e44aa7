use Rattle.std.proofs.Common.{◌∷◌, None, refl}
use Rattle.std.specs.FinMap as map
use Rattle.std.specs.Ordering.{nat_cmp}
use Rattle.cxl_model.specs.Contents.{Holding}
use Rattle.cxl_move.specs.Holdings.{told_in}
use Rattle.cxl_move.proofs.Told.{PieceLaws, HoldingLaws, told_from_media, media_from_told}
use Rattle.cxl_move.proofs.CarriedOver.{carried_told, regions_with_both}
use Rattle.cxl_move.proofs.holdings.carried_pieces_are_contents.Goals as goal

pub returns-clause-moved : goal.returns-clause-moved
returns-clause-moved c = λ s from to others old new are size media moved.
    let of_pieces : PieceLaws = record {
      each = c.pieces_are_carried_to_blocks.ensures.each;
      within = c.pieces_are_carried_to_blocks.ensures.within;
      one = c.pieces_are_carried_to_blocks.ensures.one;
      apart = c.pieces_are_carried_to_blocks.ensures.apart;
      inside = c.pieces_are_carried_to_blocks.ensures.inside;
      onto = c.pieces_are_carried_to_blocks.ensures.onto;
    } in
    let laws : HoldingLaws = record { pieces = of_pieces; shared = c.regions_share_no_byte.ensures.device } in
    let first : Holding = record from { contents = map.empty } in
    let second : Holding = record to { contents = from.contents } in
    media_from_told laws s (first ∷ (second ∷ others)) (told_in new) are.system
    (regions_with_both s from to others are map.empty from.contents)
    (carried_told laws s from to others are size (λ piece. None) map.empty (λ n. map.get-empty nat_cmp n) old new
    (told_from_media laws s (from ∷ (to ∷ others)) (told_in old) are media) moved)

pub returns-clause-copied : goal.returns-clause-copied
returns-clause-copied c = λ s from to others old new are size media copied.
    let of_pieces : PieceLaws = record {
      each = c.pieces_are_carried_to_blocks.ensures.each;
      within = c.pieces_are_carried_to_blocks.ensures.within;
      one = c.pieces_are_carried_to_blocks.ensures.one;
      apart = c.pieces_are_carried_to_blocks.ensures.apart;
      inside = c.pieces_are_carried_to_blocks.ensures.inside;
      onto = c.pieces_are_carried_to_blocks.ensures.onto;
    } in
    let laws : HoldingLaws = record { pieces = of_pieces; shared = c.regions_share_no_byte.ensures.device } in
    let second : Holding = record to { contents = from.contents } in
    media_from_told laws s (from ∷ (second ∷ others)) (told_in new) are.system
    (regions_with_both s from to others are from.contents from.contents)
    (carried_told laws s from to others are size (λ piece. piece) from.contents (λ n. refl) old new
    (told_from_media laws s (from ∷ (to ∷ others)) (told_in old) are media) copied)
