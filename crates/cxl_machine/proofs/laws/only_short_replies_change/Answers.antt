use Rattle.cxl_machine.proofs.Leaving.{quiet_turn}
use Rattle.cxl_machine.proofs.WritingNothing.{quiet_words}
use Rattle.cxl_machine.proofs.laws.only_short_replies_change.Goals as goal

pub returns-clause-machine : goal.returns-clause-machine
returns-clause-machine c = quiet_turn

pub returns-clause-words : goal.returns-clause-words
returns-clause-words c = quiet_words
