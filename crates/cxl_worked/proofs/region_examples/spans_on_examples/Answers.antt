use Rattle.std.proofs.Common.{refl, lit≤, lit<}
use Rattle.cxl_worked.proofs.region_examples.spans_on_examples.Goals as goal

pub returns-clause-length : goal.returns-clause-length
returns-clause-length c = refl

pub returns-clause-last : goal.returns-clause-last
returns-clause-last c = record { slot = 5; place = record { endpoint = 8; start = 0 }; there = refl; here = refl; from = lit≤ tt; below = lit< tt }
