use Rattle.cxl_poison.proofs.Stretches.{in_touched_stretches}
use Rattle.cxl_poison.proofs.laws.cuts_lie_in_touched_stretches.Goals as goal

pub returns : goal.returns
returns c = in_touched_stretches
