use Rattle.std.proofs.lemmas.Result.{IfOk-from_err}
use Rattle.cxl_text.proofs.region.put_words.Goals as goal

pub returns-in_err-put_hex-in-len1-up : goal.returns-in_err-put_hex-in-len1-up
returns-in_err-put_hex-in-len1-up c = IfOk-from_err c.from_residual.result _ c.from_residual.ensures.0
