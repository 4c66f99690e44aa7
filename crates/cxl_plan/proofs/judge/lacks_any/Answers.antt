use Rattle.std.proofs.Common.{rules}
use Rattle.cxl_plan.proofs.judge.lacks_any.Goals as goal

pub returns : goal.returns
returns c = search rules
