use Rattle.std.proofs.Common.{rules}
use Rattle.cxl_io.proofs.lines.Lines.line_done.Goals as goal

pub returns-then-len-clause-ok : goal.returns-then-len-clause-ok
returns-then-len-clause-ok g c = search rules

pub returns-clause-ok : goal.returns-clause-ok
returns-clause-ok g c = search rules

pub returns-clause-unswallowed : goal.returns-clause-unswallowed
returns-clause-unswallowed g c = search rules
