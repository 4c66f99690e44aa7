use Rattle.cxl_model.proofs.RangeCounts.{counted, served_lands}
use Rattle.cxl_model.proofs.RangeWindows.{counted_endpoints, none_under}
use Rattle.cxl_model.proofs.regions.endpoints_lie_evenly.Goals as goal

pub returns-clause-under : goal.returns-clause-under
returns-clause-under c = λ s r w n system whole window lands.
    counted (record { apart = c.ranges_rise.ensures.apart; some = c.ranges_rise.ensures.some }) s r w system
    (record { tree = system.tree; laws = c.tree_laws.ensures.laws s.nodes system.tree }) whole window n lands

pub returns-clause-served : goal.returns-clause-served
returns-clause-served c = λ s r n system whole is.
    served_lands s r n system (record { tree = system.tree; laws = c.tree_laws.ensures.laws s.nodes system.tree }) whole is

pub returns-clause-all : goal.returns-clause-all
returns-clause-all c = λ s r system whole committed.
    counted_endpoints (record { apart = c.ranges_rise.ensures.apart; some = c.ranges_rise.ensures.some }) s r system
    (record { tree = system.tree; laws = c.tree_laws.ensures.laws s.nodes system.tree }) whole committed

pub returns-clause-none : goal.returns-clause-none
returns-clause-none c = λ s r n system whole other.
    none_under (record { apart = c.ranges_rise.ensures.apart; some = c.ranges_rise.ensures.some }) s r system
    (record { tree = system.tree; laws = c.tree_laws.ensures.laws s.nodes system.tree }) whole n other
