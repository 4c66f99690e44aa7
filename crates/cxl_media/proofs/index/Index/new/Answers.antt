use Rattle.std.proofs.Common.{ap}
use Rattle.cxl_media.specs.Table.{frames_in}
use Rattle.cxl_media.proofs.Indexed.{new_index}
use Rattle.cxl_media.proofs.index.Index.new.Goals as goal

pub returns-clause-frames : goal.returns-clause-frames
returns-clause-frames c = ap frames_in c.in_ok-cells.ensures.kept

pub invariant_of-result : goal.invariant_of-result
invariant_of-result c = new_index _ _ _ c.in_ok-cells.ensures.cells c.in_ok-cells.ensures.kept c.requires
