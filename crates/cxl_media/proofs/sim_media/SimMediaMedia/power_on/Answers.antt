use Rattle.cxl_media.proofs.Items.{empty_counts}
use Rattle.cxl_media.proofs.sim_media.SimMediaMedia.power_on.Goals as goal

pub returns-clause-blocks : goal.returns-clause-blocks
returns-clause-blocks c = c.in_ok-media.ensures.blocks

pub returns-clause-free : goal.returns-clause-free
returns-clause-free c = c.in_ok-media.ensures.free

pub returns-clause-frames : goal.returns-clause-frames
returns-clause-frames c = empty_counts _ _ _ c.in_ok-media.ensures.blocks c.in_ok-media.ensures.free
