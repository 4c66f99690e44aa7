use Rattle.cxl_topo.proofs.Legal.{is_tree}
use Rattle.cxl_topo.proofs.Fitting.{tree_fits}
use Rattle.cxl_topo.proofs.Finding.{laws}
use Rattle.cxl_topo.proofs.laws.tree_laws.Goals as goal

pub returns-clause-legal : goal.returns-clause-legal
returns-clause-legal c = λ nodes. (tree_fits nodes, is_tree nodes)

pub returns-clause-laws : goal.returns-clause-laws
returns-clause-laws c = laws
