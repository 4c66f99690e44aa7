use Rattle.std.proofs.Common.{rules}
use Rattle.cxl_table.proofs.kinds.kind_of.Goals as goal

pub returns-in-Cxims : goal.returns-in-Cxims
returns-in-Cxims c = search rules
