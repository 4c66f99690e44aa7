use Rattle.cxl_model.proofs.SpansShared.{share_host, share_device}
use Rattle.cxl_model.proofs.regions.regions_share_no_byte.Goals as goal

pub returns-clause-host : goal.returns-clause-host
returns-clause-host c = λ s w v found other h system is also from below other_from other_below.
    share_host (record { apart = c.ranges_rise.ensures.apart; some = c.ranges_rise.ensures.some }) s w v found other h system
    (record { tree = system.tree; laws = c.tree_laws.ensures.laws s.nodes system.tree }) is also
    (record { from = from; below = below }) (record { from = other_from; below = other_below })

pub returns-clause-device : goal.returns-clause-device
returns-clause-device c = λ s w v found other endpoint dpa system is also one two.
    share_device c.spans_follow.ensures s w v found other endpoint dpa (record { tree = system.tree; laws = c.tree_laws.ensures.laws s.nodes system.tree }) is also one two
