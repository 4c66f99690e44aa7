use Rattle.std.proofs.Common.{rules}
use Rattle.cxl_check.proofs.window.starts_in_thirds.Goals as goal

pub returns-else-ways-ne0 : goal.returns-else-ways-ne0
returns-else-ways-ne0 c = search rules
