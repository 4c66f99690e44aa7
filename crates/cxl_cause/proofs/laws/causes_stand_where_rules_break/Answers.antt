use Rattle.cxl_cause.proofs.RangeLaws.{cause_law}
use Rattle.cxl_cause.proofs.laws.causes_stand_where_rules_break.Goals as goal

pub returns : goal.returns
returns c = λ s rule n i. cause_law s rule n i
