use Rattle.std.proofs.lemmas.Result.{IfOk-from_err}
use Rattle.cxl_commands.proofs.commands.lines.put_cxims_line.Goals as goal

pub returns-in_err-put_gran : goal.returns-in_err-put_gran
returns-in_err-put_gran c = IfOk-from_err c.from_residual-in_err-put_gran.result _ c.from_residual-in_err-put_gran.ensures.0

pub returns-in_err-put_maps : goal.returns-in_err-put_maps
returns-in_err-put_maps c = IfOk-from_err c.from_residual-in_err-put_maps.result _ c.from_residual-in_err-put_maps.ensures.0

pub returns-in_err-put_text : goal.returns-in_err-put_text
returns-in_err-put_text c = IfOk-from_err c.from_residual.result _ c.from_residual.ensures.0

pub returns-in_err-put_text-2 : goal.returns-in_err-put_text-2
returns-in_err-put_text-2 c = IfOk-from_err c.from_residual-in_err-put_text-2.result _ c.from_residual-in_err-put_text-2.ensures.0
