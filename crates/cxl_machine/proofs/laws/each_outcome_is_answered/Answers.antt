use Rattle.cxl_machine.proofs.GoingAnswers.{goes_answered, answered_goes}
use Rattle.cxl_machine.proofs.laws.each_outcome_is_answered.Goals as goal

pub returns-clause-answered : goal.returns-clause-answered
returns-clause-answered c m command outcome is goes = goes_answered m c.each_command_is_answered.ensures is command outcome goes

pub returns-clause-only : goal.returns-clause-only
returns-clause-only c = answered_goes
