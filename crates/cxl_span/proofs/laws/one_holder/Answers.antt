use Rattle.cxl_span.proofs.OneHolder.{one_of_address, one_of_range}
use Rattle.cxl_span.proofs.laws.one_holder.Goals as goal

pub returns-clause-address : goal.returns-clause-address
returns-clause-address c = one_of_address

pub returns-clause-range : goal.returns-clause-range
returns-clause-range c = one_of_range
