use Rattle.std.proofs.Common.{rules}
use Rattle.cxl_inputs.proofs.outcome.Outcome.write.Goals as goal

pub returns-in-Err-clause-ends : goal.returns-in-Err-clause-ends
returns-in-Err-clause-ends g c = search rules
