use Rattle.std.proofs.Common.{refl}
use Rattle.cxl_worked.proofs.range_examples.extents_on_examples.Goals as goal

pub returns-clause-by_map : goal.returns-clause-by_map
unfolding lib.Count.ones
returns-clause-by_map c = refl
