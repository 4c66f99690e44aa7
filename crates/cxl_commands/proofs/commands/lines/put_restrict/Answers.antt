use Rattle.std.proofs.lemmas.Result.{IfOk-from_err}
use Rattle.cxl_commands.proofs.commands.lines.put_restrict.Goals as goal

pub returns-in_err-put_text : goal.returns-in_err-put_text
returns-in_err-put_text c = IfOk-from_err c.from_residual.result _ c.from_residual.ensures.0
