use Rattle.cxl_pick.proofs.Computed.{pick_computed, fault_computed}
use Rattle.cxl_pick.proofs.laws.wants_come_to_answers.Goals as goal

pub returns-clause-set : goal.returns-clause-set
returns-clause-set c = λ s want w set system ways size is.
    pick_computed s want (c.tree_laws.ensures.laws s.nodes system.tree) system ways size w set is

pub returns-clause-fault : goal.returns-clause-fault
returns-clause-fault c = λ s want fault told real. fault_computed s want fault told real
