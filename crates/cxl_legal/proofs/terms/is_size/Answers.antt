use Rattle.std.proofs.Common.{rules}
use Rattle.cxl_legal.proofs.terms.is_size.Goals as goal

pub returns-then-size-whole-eq0 : goal.returns-then-size-whole-eq0
returns-then-size-whole-eq0 c = search rules
