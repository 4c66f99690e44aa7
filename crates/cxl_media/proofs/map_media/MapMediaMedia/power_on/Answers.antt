use Rattle.std.proofs.Common.{◌≡◌, ap, length, arith}
use Rattle.std.specs.FinMap.{from_entries}
use Rattle.cxl_media.specs.MapInside.{items_of}
use Rattle.cxl_media.proofs.Items.{empty_counts}
use Rattle.cxl_media.proofs.map_media.MapMediaMedia.power_on.Goals as goal

pub returns-clause-frames : goal.returns-clause-frames
returns-clause-frames c =
    let none = c.in_ok-blocks.ensures.items in
    let length_none : length (items_of c.in_ok-blocks.blocks.items) ≡ 0 = ap (λ bs. length (items_of bs)) none in
    empty_counts _ _ _ (ap (λ bs. from_entries (items_of bs)) none) (omega (arith, length_none))
