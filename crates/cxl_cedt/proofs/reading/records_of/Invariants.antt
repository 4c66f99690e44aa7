use Rattle.std.proofs.Common.{length}
use Rattle.cxl_cedt.specs.inner.Kept.{IsKeptTo}
use Rattle.cxl_cedt.proofs.reading.records_of.Given as goal

-- the records so far stand in front of the rest
abbrev pub invariant-loop-rest : goal.invariant-loop-rest
invariant-loop-rest l = IsKeptTo l.others l.bytes l.kept l.rest l.at

abbrev pub decreases-loop-rest : goal.decreases-loop-rest
decreases-loop-rest l = length l.rest
