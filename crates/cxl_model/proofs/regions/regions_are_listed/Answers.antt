use Rattle.cxl_model.proofs.SpansListed.{listed, one_list, each_listed}
use Rattle.cxl_model.proofs.regions.regions_are_listed.Goals as goal

pub returns-clause-some : goal.returns-clause-some
returns-clause-some c = λ s system accepted.
    listed (record { apart = c.ranges_rise.ensures.apart; some = c.ranges_rise.ensures.some }) s system
    (record { tree = system.tree; laws = c.tree_laws.ensures.laws s.nodes system.tree }) accepted

pub returns-clause-one : goal.returns-clause-one
returns-clause-one c = λ s regions others system one other.
    one_list s regions others (record { tree = system.tree; laws = c.tree_laws.ensures.laws s.nodes system.tree }) one other

pub returns-clause-each : goal.returns-clause-each
returns-clause-each c = λ s w found regions system are is.
    each_listed s w found regions (record { tree = system.tree; laws = c.tree_laws.ensures.laws s.nodes system.tree }) are is
