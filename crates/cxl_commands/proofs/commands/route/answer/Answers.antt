use Rattle.std.proofs.Common.{rules}
use Rattle.cxl_commands.proofs.commands.route.answer.Goals as goal

pub returns-in-Some-clause-some : goal.returns-in-Some-clause-some
returns-in-Some-clause-some c = search rules
