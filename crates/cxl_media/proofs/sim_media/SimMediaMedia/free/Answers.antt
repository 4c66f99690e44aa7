use Rattle.std.proofs.Common.{rules}
use Rattle.cxl_media.proofs.sim_media.SimMediaMedia.free.Goals as goal

pub returns : goal.returns
returns c = search rules
