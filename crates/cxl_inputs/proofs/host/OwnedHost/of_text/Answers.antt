use Rattle.std.proofs.Common.{rules}
use Rattle.std.proofs.lemmas.Result.{IfOk-from_err}
use Rattle.cxl_inputs.proofs.host.OwnedHost.of_text.Goals as goal

pub returns-in_err-windows-clause-parts : goal.returns-in_err-windows-clause-parts
returns-in_err-windows-clause-parts c = IfOk-from_err c.from_residual.result _ c.from_residual.ensures.0

pub returns-in_err-windows-clause-windows : goal.returns-in_err-windows-clause-windows
returns-in_err-windows-clause-windows c = IfOk-from_err c.from_residual.result _ c.from_residual.ensures.0

pub returns-in_err-windows-clause-system : goal.returns-in_err-windows-clause-system
returns-in_err-windows-clause-system c = IfOk-from_err c.from_residual.result _ c.from_residual.ensures.0

pub over-requires-clause-made : goal.over-requires-clause-made
over-requires-clause-made c = search rules

pub returns-clause-windows : goal.returns-clause-windows
returns-clause-windows c = search rules
