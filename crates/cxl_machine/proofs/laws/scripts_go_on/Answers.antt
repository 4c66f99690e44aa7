use Rattle.cxl_machine.proofs.GoingOn.{one_more, parted, after_both, lines_more}
use Rattle.cxl_machine.proofs.laws.scripts_go_on.Goals as goal

pub returns-clause-one_more : goal.returns-clause-one_more
returns-clause-one_more c = one_more

pub returns-clause-parts : goal.returns-clause-parts
returns-clause-parts c = parted

pub returns-clause-machine : goal.returns-clause-machine
returns-clause-machine c = after_both

pub returns-clause-lines : goal.returns-clause-lines
returns-clause-lines c = lines_more
