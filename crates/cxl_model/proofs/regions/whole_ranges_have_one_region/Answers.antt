use Rattle.cxl_model.proofs.SpansRegions.{has_region, one_region}
use Rattle.cxl_model.proofs.regions.whole_ranges_have_one_region.Goals as goal

pub returns-clause-some : goal.returns-clause-some
returns-clause-some c = λ s r system committed whole.
    let has = has_region (record { apart = c.ranges_rise.ensures.apart; some = c.ranges_rise.ensures.some }) s r system
    (record { tree = system.tree; laws = c.tree_laws.ensures.laws s.nodes system.tree }) whole committed in
    (has.window, has.found, has.region, has.range)

pub returns-clause-one : goal.returns-clause-one
returns-clause-one c = λ s w v found other system is also same.
    one_region s w v found other (record { tree = system.tree; laws = c.tree_laws.ensures.laws s.nodes system.tree }) is also same
