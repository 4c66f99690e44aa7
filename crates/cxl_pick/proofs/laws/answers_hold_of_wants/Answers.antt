use Rattle.cxl_pick.proofs.Computed.{told_set, told_fault, told_endpoints}
use Rattle.cxl_pick.proofs.Picks.{not_memory}
use Rattle.cxl_pick.proofs.laws.answers_hold_of_wants.Goals as goal

pub returns-clause-ways : goal.returns-clause-ways
returns-clause-ways c = λ s want set system is. (told_set s want (c.tree_laws.ensures.laws s.nodes system.tree) system set is).ways

pub returns-clause-size : goal.returns-clause-size
returns-clause-size c = λ s want set system is. (told_set s want (c.tree_laws.ensures.laws s.nodes system.tree) system set is).size

pub returns-clause-set : goal.returns-clause-set
returns-clause-set c = λ s want set system is.
    let told = told_set s want (c.tree_laws.ensures.laws s.nodes system.tree) system set is in
    (told.window, told.is)

pub returns-clause-endpoints : goal.returns-clause-endpoints
returns-clause-endpoints c = λ s want set system ports is. told_endpoints s want (c.tree_laws.ensures.laws s.nodes system.tree) system ports set is

pub returns-clause-fault : goal.returns-clause-fault
returns-clause-fault c = λ s want fault system is. told_fault s want (c.tree_laws.ensures.laws s.nodes system.tree) system fault is

pub returns-clause-real : goal.returns-clause-real
returns-clause-real c = λ s want is. not_memory s want is
