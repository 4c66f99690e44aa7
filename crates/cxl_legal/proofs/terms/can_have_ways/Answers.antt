use Rattle.std.proofs.Common.{rules}
use Rattle.cxl_legal.proofs.terms.can_have_ways.Goals as goal

pub returns-in-16 : goal.returns-in-16
returns-in-16 c = search rules
