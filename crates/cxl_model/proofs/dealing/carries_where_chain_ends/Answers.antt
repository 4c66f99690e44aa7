use Rattle.cxl_model.proofs.DealingRoutes.{carried_once}
use Rattle.cxl_model.proofs.dealing.carries_where_chain_ends.Goals as goal

pub returns-clause-one : goal.returns-clause-one
returns-clause-one c = carried_once

pub returns-clause-ends : goal.returns-clause-ends
returns-clause-ends c = λ s w found h endpoint dpa system is carries.
    let all = c.chain_is_the_dealing.ensures.route s w found h system is carries.from carries.below in
    let same = carried_once found w h all.0.arrival.endpoint all.0.arrival.dpa endpoint dpa all.2.place carries in
    (all.0, all.1, same.0, same.1)
