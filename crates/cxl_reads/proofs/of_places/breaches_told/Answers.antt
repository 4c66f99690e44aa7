use Rattle.std.proofs.Common.{Err, ap, ◌∙◌}
use Rattle.std.proofs.lemmas.Result.{err_from_is_err_and}
use Rattle.cxl_inputs.specs.Given.{SpellNoTable, StandForNoTree, HoldNoImage}
use Rattle.cxl_reads.specs.Answers.{table_name, topology_name, image_name}
use Rattle.cxl_reads.specs.Breaches.{AreBreaches, no_table, no_tree, no_image, places}
use Rattle.cxl_reads.proofs.Endings.{stops_behind, stops_short}
use Rattle.cxl_reads.proofs.of_places.breaches_told.Goals as goal

pub returns-in_err-table : goal.returns-in_err-table
returns-in_err-table c =
    let p = err_from_is_err_and c.from_residual.result c.from_residual.ensures.1 in
    let cedt = c.args.cedt.now in
    stops_behind (SpellNoTable table_name cedt) (AreBreaches cedt c.args.topo.now c.args.image.now) c.from_residual.result _ (p.1 ∙ ap Err p.2) (λ o none. no_table none) c.in_err-table.ensures.stops

pub returns-in_err-topo : goal.returns-in_err-topo
returns-in_err-topo c =
    let p = err_from_is_err_and c.from_residual-in_err-topo.result c.from_residual-in_err-topo.ensures.1 in
    let topo = c.args.topo.now in
    stops_behind (StandForNoTree topology_name topo) (AreBreaches c.args.cedt.now topo c.args.image.now) c.from_residual-in_err-topo.result _ (p.1 ∙ ap Err p.2)
    (λ o none. no_tree c.in_ok-table.table c.in_ok-table.ensures.table none) c.in_err-topo.ensures.stops

pub returns-in_err-image : goal.returns-in_err-image
returns-in_err-image c =
    let p = err_from_is_err_and c.from_residual-in_err-image.result c.from_residual-in_err-image.ensures.1 in
    let image = c.args.image.now in
    let tree = c.in_ok-topo.topo in
    stops_behind (HoldNoImage image_name image tree.nodes) (AreBreaches c.args.cedt.now c.args.topo.now image) c.from_residual-in_err-image.result _ (p.1 ∙ ap Err p.2)
    (λ o none. no_image c.in_ok-table.table tree c.in_ok-table.ensures.table c.in_ok-topo.ensures.tree none) c.in_err-image.ensures.stops

pub returns-in_err-told : goal.returns-in_err-told
returns-in_err-told c =
    let p = err_from_is_err_and c.from_residual-in_err-told.result c.from_residual-in_err-told.ensures.1 in
    stops_short (AreBreaches c.args.cedt.now c.args.topo.now c.args.image.now) c.from_residual-in_err-told.result _ p.1 p.2

pub returns : goal.returns
returns c =
    places c.in_ok-table.table c.in_ok-topo.topo c.in_ok-image.image
    (record { of_table = c.in_ok-table.ensures.table; of_tree = c.in_ok-topo.ensures.tree; of_image = c.in_ok-image.ensures.image }) c.in_ok-told.ensures
