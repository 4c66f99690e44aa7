use Rattle.std.proofs.lemmas.Result.{IfOk-from_err}
use Rattle.cxl_reads.proofs.decoder_lines.put_decoder_line.Goals as goal

pub returns-in_err-push : goal.returns-in_err-push
returns-in_err-push c = IfOk-from_err c.from_residual-in_err-push.result _ c.from_residual-in_err-push.ensures.0

pub returns-in_err-put_eight_words : goal.returns-in_err-put_eight_words
returns-in_err-put_eight_words c = IfOk-from_err c.from_residual-in_err-put_eight_words.result _ c.from_residual-in_err-put_eight_words.ensures.0

pub returns-in_err-put_fields : goal.returns-in_err-put_fields
returns-in_err-put_fields c = IfOk-from_err c.from_residual-in_err-put_fields.result _ c.from_residual-in_err-put_fields.ensures.0

pub returns-in_err-put_place : goal.returns-in_err-put_place
returns-in_err-put_place c = IfOk-from_err c.from_residual.result _ c.from_residual.ensures.0

pub returns-in_err-put_tail : goal.returns-in_err-put_tail
returns-in_err-put_tail c = IfOk-from_err c.from_residual-in_err-put_tail.result _ c.from_residual-in_err-put_tail.ensures.0
