use Rattle.cxl_span.proofs.Wholes.{length_some, length_times_ways, length_aligned, start_aligned}
use Rattle.cxl_span.proofs.laws.spans_are_whole.Goals as goal

pub returns-clause-some : goal.returns-clause-some
returns-clause-some c = λ block ram pmem i d keeps endpoint here committed. length_some block ram pmem i d keeps endpoint here committed

pub returns-clause-shares : goal.returns-clause-shares
returns-clause-shares c = λ block ram pmem i d keeps endpoint here committed. length_times_ways block ram pmem i d keeps endpoint here committed

pub returns-clause-length_aligned : goal.returns-clause-length_aligned
returns-clause-length_aligned c = λ block ram pmem i d keeps endpoint here committed. length_aligned block ram pmem i d keeps endpoint here committed

pub returns-clause-start_aligned : goal.returns-clause-start_aligned
returns-clause-start_aligned c = λ block ram pmem i d is keeps endpoint here committed. start_aligned block ram pmem i d is keeps endpoint here committed
