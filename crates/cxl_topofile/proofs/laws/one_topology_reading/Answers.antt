use Rattle.cxl_topofile.proofs.OneReading.{one_tree, one_fault, not_both}
use Rattle.cxl_topofile.proofs.laws.one_topology_reading.Goals as goal

pub returns-clause-one_tree : goal.returns-clause-one_tree
returns-clause-one_tree c = one_tree

pub returns-clause-one_fault : goal.returns-clause-one_fault
returns-clause-one_fault c = one_fault

pub returns-clause-not_both : goal.returns-clause-not_both
returns-clause-not_both c = not_both c.tree_laws.ensures.legal
