use Rattle.std.proofs.lemmas.Result.{IfOk-from_err}
use Rattle.cxl_io.proofs.ReadBack.{decimal-one}
use Rattle.cxl_commands.proofs.commands.lines.put_length.Goals as goal

pub returns-in_err-put_text : goal.returns-in_err-put_text
returns-in_err-put_text c = IfOk-from_err c.from_residual.result _ c.from_residual.ensures.0

pub returns-in_err-put_number : goal.returns-in_err-put_number
returns-in_err-put_number c = IfOk-from_err c.from_residual-in_err-put_number.result _ c.from_residual-in_err-put_number.ensures.0

pub returns-then-len-lt10 : goal.returns-then-len-lt10
returns-then-len-lt10 c = rw (decimal-one c.args.len c.if-len-lt10.true) c.put_text.ensures
