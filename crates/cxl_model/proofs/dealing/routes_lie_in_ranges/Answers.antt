use Rattle.cxl_model.proofs.DealingRanges.{in_a_range}
use Rattle.cxl_model.proofs.dealing.routes_lie_in_ranges.Goals as goal

pub returns : goal.returns
returns c = λ s h route chain.
    let all = in_a_range s h route chain in
    (all.range, all.committed, all.base, all.from, all.below)
