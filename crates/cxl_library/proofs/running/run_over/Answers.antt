use Rattle.std.proofs.Common.{rules}
use Rattle.cxl_library.proofs.running.run_over.Goals as goal

pub returns-clause-answered : goal.returns-clause-answered
returns-clause-answered c = search rules

pub returns-clause-full : goal.returns-clause-full
returns-clause-full c = search rules
