use Rattle.std.proofs.lemmas.Result.{IfOk-from_err}
use Rattle.std.proofs.Common.{◌∙◌, ap, sym, List, ℕ, ◌++◌, []}
use Rattle.std.specs.List.{cons_option}
use Rattle.cxl_window.proofs.FilterMaps.{filter_map_more}
use Rattle.cxl_reads.specs.Windows.{group_in}
use Rattle.cxl_reads.proofs.of_windows.groups_of.Goals as goal

pub returns-in_err-add_group : goal.returns-in_err-add_group
returns-in_err-add_group c = IfOk-from_err c.from_residual.result _ c.from_residual.ensures.0

pub loop-record-preserved : goal.loop-record-preserved
loop-record-preserved c =
    let records = c.args.records.now in
    let item = c.record-item.result in
    c.in_ok-add_group.ensures ∙ ap (λ (groups : List ℕ). groups ++ cons_option (group_in item) []) c.loop-record.invariant
    ∙ sym (filter_map_more records c.loop-record.record-index item c.loop-record-test.true c.record-item.is group_in)
