use Rattle.std.proofs.Common.{None, Option, length, ap, ◌∙◌}
use Rattle.std.proofs.lemmas.List.{length-set}
use Rattle.cxl_media.specs.declared.cell.Cell.{Cell}
use Rattle.cxl_media.specs.Table.{frames_in}
use Rattle.cxl_media.proofs.Changes.{left_hole, left_frames}
use Rattle.cxl_media.proofs.Gap.{cell_within}
use Rattle.cxl_media.proofs.probe.take_out.Goals as goal

pub close-requires : goal.close-requires
close-requires c =
    rw c.take-cell.ensures.cells
    (left_hole _ _ _ c.take-cell.result.cell c.requires.table (cell_within _ _ c.take-cell.result.cell c.take-cell.ensures.there) c.take-cell.ensures.there)

pub returns-clause-frames : goal.returns-clause-frames
returns-clause-frames c =
    c.close.ensures.frames ∙ ap frames_in c.take-cell.ensures.cells
    ∙ left_frames _ _ _ c.take-cell.result.cell c.requires.table (cell_within _ _ c.take-cell.result.cell c.take-cell.ensures.there) c.take-cell.ensures.there

pub returns-clause-length : goal.returns-clause-length
returns-clause-length c =
    c.close.ensures.length ∙ ap length c.take-cell.ensures.cells ∙ length-set {A = Option Cell} c.args.cells.now.cells c.take-cell.result.at None
