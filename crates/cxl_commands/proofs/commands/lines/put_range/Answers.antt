use Rattle.std.proofs.lemmas.Result.{IfOk-from_err}
use Rattle.cxl_commands.proofs.commands.lines.put_range.Goals as goal

pub returns-in_err-put_count : goal.returns-in_err-put_count
returns-in_err-put_count c = IfOk-from_err c.from_residual.result _ c.from_residual.ensures.0

pub returns-in_err-put_size : goal.returns-in_err-put_size
returns-in_err-put_size c = IfOk-from_err c.from_residual-in_err-put_size.result _ c.from_residual-in_err-put_size.ensures.0
