use Rattle.std.proofs.Common.{rules}
use Rattle.cxl_check.proofs.targets.target_lands.Goals as goal

pub returns-in-Some : goal.returns-in-Some
returns-in-Some c = search rules
