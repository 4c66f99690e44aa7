use Rattle.std.proofs.Common.{sym}
use Rattle.cxl_gen.proofs.Order.{commands_length}
use Rattle.cxl_gen.proofs.commands.command_count.Goals as goal

pub returns : goal.returns
returns c = sym (commands_length c.args.n)
