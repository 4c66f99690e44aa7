use Rattle.cxl_cause.proofs.WantedThirds.{next_starts, next_past}
use Rattle.cxl_cause.proofs.laws.told_thirds_start_ranges.Goals as goal

pub returns-clause-starts : goal.returns-clause-starts
returns-clause-starts c = λ w r. next_starts w r

pub returns-clause-past : goal.returns-clause-past
returns-clause-past c = λ w r. next_past w r
