use Rattle.std.proofs.Common.{rules}
use Rattle.cxl_c.proofs.forms.cxlplan_proved_route.Goals as goal

pub returns-clause-answered : goal.returns-clause-answered
returns-clause-answered c = search rules
