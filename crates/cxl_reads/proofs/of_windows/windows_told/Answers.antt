use Rattle.std.proofs.Common.{Err, ap, ◌∙◌}
use Rattle.std.proofs.lemmas.Result.{err_from_is_err_and}
use Rattle.cxl_inputs.specs.Given.{SpellNoTable, StandForNoTree}
use Rattle.cxl_reads.specs.Answers.{table_name, topology_name}
use Rattle.cxl_reads.specs.Windows.{AreWindows, no_table, no_tree, windows}
use Rattle.cxl_reads.proofs.Endings.{stops_behind, stops_short}
use Rattle.cxl_reads.proofs.of_windows.windows_told.Goals as goal

pub returns-in_err-table : goal.returns-in_err-table
returns-in_err-table c =
    let p = err_from_is_err_and c.from_residual.result c.from_residual.ensures.1 in
    let cedt = c.args.cedt.now in
    stops_behind (SpellNoTable table_name cedt) (AreWindows cedt c.args.topo.now) c.from_residual.result _ (p.1 ∙ ap Err p.2) (λ o none. no_table none) c.in_err-table.ensures.stops

pub returns-in_err-topo : goal.returns-in_err-topo
returns-in_err-topo c =
    let p = err_from_is_err_and c.from_residual-in_err-topo.result c.from_residual-in_err-topo.ensures.1 in
    let topo = c.args.topo.now in
    stops_behind (StandForNoTree topology_name topo) (AreWindows c.args.cedt.now topo) c.from_residual-in_err-topo.result _ (p.1 ∙ ap Err p.2)
    (λ o none. no_tree c.in_ok-table.table c.in_ok-table.ensures.table none) c.in_err-topo.ensures.stops

pub returns-in_err-told : goal.returns-in_err-told
returns-in_err-told c =
    let p = err_from_is_err_and c.from_residual-in_err-told.result c.from_residual-in_err-told.ensures.1 in
    stops_short (AreWindows c.args.cedt.now c.args.topo.now) c.from_residual-in_err-told.result _ p.1 p.2

pub returns : goal.returns
returns c = windows c.in_ok-table.table c.in_ok-topo.topo c.in_ok-table.ensures.table c.in_ok-topo.ensures.tree c.in_ok-told.ensures
