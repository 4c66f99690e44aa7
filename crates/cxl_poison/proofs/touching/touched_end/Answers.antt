use Rattle.std.proofs.Common.{rules}
use Rattle.cxl_poison.proofs.touching.touched_end.Goals as goal

pub returns : goal.returns
returns c = search rules
