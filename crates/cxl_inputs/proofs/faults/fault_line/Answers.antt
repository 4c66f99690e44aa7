use Rattle.std.proofs.lemmas.Result.{IfOk-from_err}
use Rattle.cxl_inputs.proofs.faults.fault_line.Goals as goal

pub returns-in_err-text-in-Some : goal.returns-in_err-text-in-Some
returns-in_err-text-in-Some c = IfOk-from_err c.from_residual.result _ c.from_residual.ensures.0
