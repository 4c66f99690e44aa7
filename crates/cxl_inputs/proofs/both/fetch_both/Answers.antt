use Rattle.std.proofs.Common.{[], ◌∷◌, Err, ap, ◌∙◌}
use Rattle.std.proofs.lemmas.Result.{IfOk-from_err, err_from_is_err_and}
use Rattle.cxl_inputs.specs.File.{RunsOutBehind}
use Rattle.cxl_inputs.specs.ResetHost.{HasNoResetHost, no_table, no_tree}
use Rattle.cxl_inputs.specs.Table.{HasNoTable}
use Rattle.cxl_inputs.specs.Topology.{HasNoTree}
use Rattle.cxl_inputs.proofs.Hosts.{asks_behind, tree_behind, first_of_two, second_of_two}
use Rattle.cxl_inputs.proofs.Stops.{stopped-behind, unfailed_twice}
use Rattle.cxl_inputs.proofs.both.fetch_both.Goals as goal

pub returns-in_err-table-clause-read : goal.returns-in_err-table-clause-read
returns-in_err-table-clause-read g c = IfOk-from_err c.from_residual.result _ c.from_residual.ensures.0

pub returns-in_err-table-clause-asked : goal.returns-in_err-table-clause-asked
returns-in_err-table-clause-asked g c = IfOk-from_err c.from_residual.result _ c.from_residual.ensures.0

pub returns-in_err-table-clause-unfailed : goal.returns-in_err-table-clause-unfailed
returns-in_err-table-clause-unfailed g c = IfOk-from_err c.from_residual.result _ c.from_residual.ensures.0

pub returns-in_err-topo-clause-read : goal.returns-in_err-topo-clause-read
returns-in_err-topo-clause-read g c = IfOk-from_err c.from_residual-in_err-topo.result _ c.from_residual-in_err-topo.ensures.0

pub returns-in_err-topo-clause-asked : goal.returns-in_err-topo-clause-asked
returns-in_err-topo-clause-asked g c = IfOk-from_err c.from_residual-in_err-topo.result _ c.from_residual-in_err-topo.ensures.0

pub returns-in_err-topo-clause-unfailed : goal.returns-in_err-topo-clause-unfailed
returns-in_err-topo-clause-unfailed g c = IfOk-from_err c.from_residual-in_err-topo.result _ c.from_residual-in_err-topo.ensures.0

pub returns-in_err-table-clause-stops : goal.returns-in_err-table-clause-stops
returns-in_err-table-clause-stops g c =
    let p = err_from_is_err_and c.from_residual.result c.from_residual.ensures.1 in
    let cedt = c.args.cedt.now in
    let topo = c.args.topo.now in
    let old = g.F.Fetch.state c.args.files.now in
    let new = g.F.Fetch.state c.fetch_table.new.files in
    stopped-behind (HasNoTable cedt old new) (HasNoResetHost cedt topo old new)
    (RunsOutBehind (cedt ∷ []) old new) (RunsOutBehind (cedt ∷ topo ∷ []) old new) c.from_residual.result _ (p.1 ∙ ap Err p.2)
    (λ o none. no_table none) (first_of_two cedt topo old new) c.in_err-table.ensures.stops

pub returns-in_err-topo-clause-stops : goal.returns-in_err-topo-clause-stops
returns-in_err-topo-clause-stops g c =
    let p = err_from_is_err_and c.from_residual-in_err-topo.result c.from_residual-in_err-topo.ensures.1 in
    let cedt = c.args.cedt.now in
    let topo = c.args.topo.now in
    let old = g.F.Fetch.state c.args.files.now in
    let mid = g.F.Fetch.state c.fetch_table.new.files in
    let new = g.F.Fetch.state c.fetch_topology.new.files in
    let table = c.in_ok-table.ensures in
    stopped-behind (HasNoTree [] topo mid new) (HasNoResetHost cedt topo old new)
    (RunsOutBehind (topo ∷ []) mid new) (RunsOutBehind (cedt ∷ topo ∷ []) old new) c.from_residual-in_err-topo.result _ (p.1 ∙ ap Err p.2)
    (λ o none. no_tree c.in_ok-table.table table.table (tree_behind old mid new (cedt ∷ []) table.asked table.stays table.counts topo o none))
    (second_of_two cedt topo old mid new table.asked table.unfailed table.stays table.counts) c.in_err-topo.ensures.stops

pub returns-clause-asked : goal.returns-clause-asked
returns-clause-asked g c =
    let old = g.F.Fetch.state c.args.files.now in
    let mid = g.F.Fetch.state c.fetch_table.new.files in
    let new = g.F.Fetch.state c.fetch_topology.new.files in
    let table = c.in_ok-table.ensures in
    let topo = c.in_ok-topo.ensures in
    asks_behind old mid new (c.args.cedt.now ∷ []) table.asked table.stays table.counts (c.args.topo.now ∷ []) topo.asked

pub returns-clause-unfailed : goal.returns-clause-unfailed
returns-clause-unfailed g c =
    unfailed_twice (g.F.Fetch.state c.args.files.now) (g.F.Fetch.state c.fetch_table.new.files) (g.F.Fetch.state c.fetch_topology.new.files) c.in_ok-table.ensures.unfailed c.in_ok-topo.ensures.unfailed
