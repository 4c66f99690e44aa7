use Rattle.std.proofs.Common.{refl}
use Rattle.cxl_worked.proofs.region_examples.endpoints_on_examples.Goals as goal

pub returns-clause-six : goal.returns-clause-six
returns-clause-six c = refl

pub returns-clause-under : goal.returns-clause-under
returns-clause-under c = refl

pub returns-clause-below : goal.returns-clause-below
returns-clause-below c = refl

pub returns-clause-forwarding : goal.returns-clause-forwarding
returns-clause-forwarding c = refl

pub returns-clause-lands : goal.returns-clause-lands
returns-clause-lands c = refl
