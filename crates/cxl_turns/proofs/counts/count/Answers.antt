use Rattle.std.proofs.Common.{rules}
use Rattle.cxl_turns.proofs.counts.count.Goals as goal

pub returns-in-Loaded-clause-counted : goal.returns-in-Loaded-clause-counted
returns-in-Loaded-clause-counted c = search rules
