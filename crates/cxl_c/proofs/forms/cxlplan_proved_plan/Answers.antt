use Rattle.cxl_c.proofs.forms.cxlplan_proved_plan.Goals as goal

pub returns-clause-answered : goal.returns-clause-answered
returns-clause-answered c utf8 = (c.plan.result, c.code.ensures, c.plan.ensures.answered utf8)
