use Rattle.std.proofs.Common.{rules}
use Rattle.cxl_plan.proofs.base.least_base.Goals as goal

pub returns-else-ways-eq0-clause-least : goal.returns-else-ways-eq0-clause-least
returns-else-ways-eq0-clause-least c = search rules

pub returns-else-ways-eq0-clause-low : goal.returns-else-ways-eq0-clause-low
returns-else-ways-eq0-clause-low c = search rules
