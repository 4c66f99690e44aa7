use Rattle.std.proofs.lemmas.Result.{IfOk-from_err}
use Rattle.cxl_text.proofs.digits.put_bytes.Goals as goal

pub returns-in_err-end : goal.returns-in_err-end
returns-in_err-end c = IfOk-from_err c.from_residual.result _ c.from_residual.ensures.0

pub returns-in_err-resize : goal.returns-in_err-resize
returns-in_err-resize c = IfOk-from_err c.from_residual-in_err-resize.result _ c.from_residual-in_err-resize.ensures.0
