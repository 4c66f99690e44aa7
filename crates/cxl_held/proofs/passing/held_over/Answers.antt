use Rattle.std.proofs.Common.{rules}
use Rattle.cxl_held.proofs.passing.held_over.Goals as goal

pub returns-in-Ok-clause-made : goal.returns-in-Ok-clause-made
returns-in-Ok-clause-made c = search rules
