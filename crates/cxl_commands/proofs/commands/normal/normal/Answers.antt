use Rattle.std.proofs.Common.{Err, ap, ◌∙◌}
use Rattle.std.proofs.lemmas.Result.{err_from_is_err_and}
use Rattle.cxl_inputs.specs.Outcome.{one_piece}
use Rattle.cxl_inputs.specs.Table.{no_table, by_table}
use Rattle.cxl_inputs.specs.declared.status.Status.TheVariants.{Done}
use Rattle.cxl_inputs.proofs.Stops.{out_behind_one}
use Rattle.cxl_commands.specs.Form.{Normal}
use Rattle.cxl_commands.proofs.Stops.{comes-stopped, comes-out_of_memory}
use Rattle.cxl_commands.proofs.commands.normal.normal.Goals as goal

pub returns-in_err-table-clause-comes : goal.returns-in_err-table-clause-comes
returns-in_err-table-clause-comes g c =
    let p = err_from_is_err_and c.from_residual.result c.from_residual.ensures.1 in
    comes-stopped (Normal c.args.file.now) _ _ _ c.from_residual.result _ (p.1 ∙ ap Err p.2) (λ o none. no_table none) c.in_err-table.ensures.stops

pub returns-in_err-text-clause-comes : goal.returns-in_err-text-clause-comes
returns-in_err-text-clause-comes g c =
    let p = err_from_is_err_and c.from_residual-in_err-text.result c.from_residual-in_err-text.ensures.1 in
    comes-out_of_memory (Normal c.args.file.now) _ _ c.from_residual-in_err-text.result _ p.1 p.2 (out_behind_one _ _ _ c.in_ok-table.ensures.asked c.in_ok-table.ensures.unfailed)

pub returns-clause-comes : goal.returns-clause-comes
returns-clause-comes g c = by_table c.in_ok-table.table c.in_ok-table.ensures.table (c.in_ok-table.ensures.asked, c.made.ensures ∙ ap (one_piece Done) c.in_ok-text.ensures.spelling)
