use Rattle.std.proofs.Common.{rules}
use Rattle.cxl_commands.proofs.commands.help.version_told.Goals as goal

pub returns : goal.returns
returns c = search rules
