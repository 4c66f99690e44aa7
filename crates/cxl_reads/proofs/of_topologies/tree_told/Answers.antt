use Rattle.std.proofs.Common.{Err, ap, ◌∙◌, refl}
use Rattle.std.proofs.lemmas.Result.{err_from_is_err_and}
use Rattle.cxl_inputs.specs.Given.{StandForNoTree}
use Rattle.cxl_reads.specs.Answers.{told, topology_name}
use Rattle.cxl_reads.specs.Tree.{IsTreeTold, no_tree, nodes}
use Rattle.cxl_reads.proofs.Endings.{stops_behind, stops_short}
use Rattle.cxl_reads.proofs.of_topologies.tree_told.Goals as goal

pub returns-in_err-topo : goal.returns-in_err-topo
returns-in_err-topo c =
    let p = err_from_is_err_and c.from_residual.result c.from_residual.ensures.1 in
    let topo = c.args.topo.now in
    stops_behind (StandForNoTree topology_name topo) (IsTreeTold topo) c.from_residual.result _ (p.1 ∙ ap Err p.2) (λ o none. no_tree none) c.in_err-topo.ensures.stops

pub returns-in_err-put_tree : goal.returns-in_err-put_tree
returns-in_err-put_tree c =
    let p = err_from_is_err_and c.from_residual-in_err-put_tree.result c.from_residual-in_err-put_tree.ensures.1 in
    stops_short (IsTreeTold c.args.topo.now) c.from_residual-in_err-put_tree.result _ p.1 p.2

pub returns : goal.returns
returns c =
    nodes c.in_ok-topo.topo c.in_ok-topo.ensures.tree (c.told.ensures ∙ ap told (c.in_ok-put_tree.ensures ∙ rw c.new-text.ensures.items refl))
