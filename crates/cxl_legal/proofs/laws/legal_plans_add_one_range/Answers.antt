use Rattle.cxl_legal.proofs.AddedRanges.{one_more}
use Rattle.cxl_legal.proofs.laws.legal_plans_add_one_range.Goals as goal

pub returns : goal.returns
returns c = one_more
