use Rattle.std.proofs.lemmas.Result.{IfOk-from_err}
use Rattle.cxl_text.proofs.places.put_down.Goals as goal

pub returns-in_err-put_down_head : goal.returns-in_err-put_down_head
returns-in_err-put_down_head c = IfOk-from_err c.from_residual.result _ c.from_residual.ensures.0

pub returns-in_err-put_vias : goal.returns-in_err-put_vias
returns-in_err-put_vias c = IfOk-from_err c.from_residual-in_err-put_vias.result _ c.from_residual-in_err-put_vias.ensures.0
