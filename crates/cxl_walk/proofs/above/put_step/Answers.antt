use Rattle.std.proofs.Common.{rules}
use Rattle.cxl_walk.proofs.above.put_step.Goals as goal

pub returns : goal.returns
returns c = search rules
