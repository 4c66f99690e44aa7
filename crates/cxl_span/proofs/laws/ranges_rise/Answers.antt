use Rattle.cxl_span.proofs.KeptRules.{size_some, size_ends}
use Rattle.cxl_span.proofs.Committed.{ranges_rise}
use Rattle.cxl_span.proofs.laws.ranges_rise.Goals as goal

pub returns-clause-apart : goal.returns-clause-apart
returns-clause-apart c = λ block ram pmem i j d e keeps at_d at_e below committed. ranges_rise block ram pmem keeps j e at_e committed i d at_d below

pub returns-clause-some : goal.returns-clause-some
returns-clause-some c = λ block ram pmem i d keeps here committed. size_some block ram pmem i d keeps here committed

pub returns-clause-ends : goal.returns-clause-ends
returns-clause-ends c = λ block ram pmem i d keeps here committed. size_ends block ram pmem i d keeps here committed
