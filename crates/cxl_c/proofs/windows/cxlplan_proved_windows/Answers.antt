use Rattle.std.proofs.Common.{rules}
use Rattle.cxl_c.proofs.windows.cxlplan_proved_windows.Goals as goal

pub returns-clause-answered : goal.returns-clause-answered
returns-clause-answered c = search rules
