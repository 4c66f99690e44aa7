use Rattle.std.proofs.lemmas.Result.{IfOk-from_err}
use Rattle.cxl_text.proofs.region.put_shown.Goals as goal

pub returns-in_err-put_rows : goal.returns-in_err-put_rows
returns-in_err-put_rows c = IfOk-from_err c.from_residual-in_err-put_rows.result _ c.from_residual-in_err-put_rows.ensures.0

pub returns-in_err-put_shown_head : goal.returns-in_err-put_shown_head
returns-in_err-put_shown_head c = IfOk-from_err c.from_residual.result _ c.from_residual.ensures.0
