use Rattle.std.proofs.Common.{Err, ap, ◌∙◌}
use Rattle.std.proofs.lemmas.Result.{IfOk-from_err, err_from_is_err_and}
use Rattle.cxl_inputs.proofs.Stops.{stop-memory, out_behind_one}
use Rattle.cxl_commands.proofs.commands.list.judged.Goals as goal

pub returns-in_err-windows-clause-stops : goal.returns-in_err-windows-clause-stops
returns-in_err-windows-clause-stops g c =
    let p = err_from_is_err_and c.from_residual-in_err-windows.result c.from_residual-in_err-windows.ensures.1 in
    rw p.1 (stop-memory _ _ _ p.2 (out_behind_one _ _ _ c.in_ok-table.ensures.asked c.in_ok-table.ensures.unfailed))

pub returns-in_err-table-clause-stops : goal.returns-in_err-table-clause-stops
returns-in_err-table-clause-stops g c =
    let p = err_from_is_err_and c.from_residual.result c.from_residual.ensures.1 in
    rw (p.1 ∙ ap Err p.2) c.in_err-table.ensures.stops

pub returns-in_err-table-clause-table : goal.returns-in_err-table-clause-table
returns-in_err-table-clause-table g c =
    IfOk-from_err c.from_residual.result _ c.from_residual.ensures.0

pub returns-in_err-table-clause-windows : goal.returns-in_err-table-clause-windows
returns-in_err-table-clause-windows g c =
    IfOk-from_err c.from_residual.result _ c.from_residual.ensures.0

pub returns-in_err-table-clause-asked : goal.returns-in_err-table-clause-asked
returns-in_err-table-clause-asked g c =
    IfOk-from_err c.from_residual.result _ c.from_residual.ensures.0

pub returns-in_err-windows-clause-table : goal.returns-in_err-windows-clause-table
returns-in_err-windows-clause-table g c =
    IfOk-from_err c.from_residual-in_err-windows.result _ c.from_residual-in_err-windows.ensures.0

pub returns-in_err-windows-clause-windows : goal.returns-in_err-windows-clause-windows
returns-in_err-windows-clause-windows g c =
    IfOk-from_err c.from_residual-in_err-windows.result _ c.from_residual-in_err-windows.ensures.0

pub returns-in_err-windows-clause-asked : goal.returns-in_err-windows-clause-asked
returns-in_err-windows-clause-asked g c =
    IfOk-from_err c.from_residual-in_err-windows.result _ c.from_residual-in_err-windows.ensures.0

pub returns-in_err-table-clause-unfailed : goal.returns-in_err-table-clause-unfailed
returns-in_err-table-clause-unfailed g c =
    IfOk-from_err c.from_residual.result _ c.from_residual.ensures.0

pub returns-in_err-windows-clause-unfailed : goal.returns-in_err-windows-clause-unfailed
returns-in_err-windows-clause-unfailed g c =
    IfOk-from_err c.from_residual-in_err-windows.result _ c.from_residual-in_err-windows.ensures.0
