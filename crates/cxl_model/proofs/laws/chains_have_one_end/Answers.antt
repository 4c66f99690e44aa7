use Rattle.cxl_model.proofs.OutcomesWalks.{one_chain}
use Rattle.cxl_model.proofs.laws.chains_have_one_end.Goals as goal

pub returns : goal.returns
returns c = λ s h one other is a b. one_chain c.ranges_rise.ensures.apart s h one other is a b
