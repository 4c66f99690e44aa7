use Rattle.std.proofs.lemmas.Result.{IfOk-from_err}
use Rattle.cxl_text.proofs.places.put_vias.Goals as goal

pub returns-in_err-push-in-empty : goal.returns-in_err-push-in-empty
returns-in_err-push-in-empty c = IfOk-from_err c.from_residual.result _ c.from_residual.ensures.0

pub returns-in_err-put_via-in-len1-up : goal.returns-in_err-put_via-in-len1-up
returns-in_err-put_via-in-len1-up c = IfOk-from_err c.from_residual-in_err-put_via-in-len1-up.result _ c.from_residual-in_err-put_via-in-len1-up.ensures.0
