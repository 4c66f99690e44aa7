use Rattle.std.proofs.Common.{rules}
use Rattle.cxl_poison.proofs.list.list_of.Goals as goal

pub returns-clause-fault : goal.returns-clause-fault
returns-clause-fault c = search rules
