use Rattle.std.proofs.Common.{◌≡◌, ◌-◌, map}
use Rattle.std.specs.List.{range_with_len}
use Rattle.cxl_regs.specs.Reading.{decoder_ways, entry_at, entries_of}
use Rattle.cxl_cause.specs.RangeCauses.{same_port}
use Rattle.cxl_cause.proofs.targets.same_port.Given as goal

abbrev pub invariant-loop-entry : goal.invariant-loop-entry
invariant-loop-entry l = same_port 0 (entries_of l.d) ≡ same_port l.entry (map (entry_at l.d) (range_with_len l.entry (decoder_ways l.d - l.entry)))
