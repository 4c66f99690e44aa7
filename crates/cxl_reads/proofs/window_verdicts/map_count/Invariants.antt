use Rattle.std.proofs.Common.{◌≡◌, drop}
use Rattle.cxl_window.specs.Windows.{maps_in}
use Rattle.cxl_reads.proofs.window_verdicts.map_count.Given as goal

-- the records from here on decide
abbrev pub invariant-loop-record : goal.invariant-loop-record
invariant-loop-record l = maps_in l.gran (drop l.record-index l.records) ≡ maps_in l.gran l.records
