use Rattle.std.proofs.Common.{◌≡◌, ◌-◌, map}
use Rattle.std.specs.List.{range_with_len}
use Rattle.cxl_regs.specs.Reading.{decoder_ways, entry_at, entries_of}
use Rattle.cxl_model.specs.Hosts.{as_system}
use Rattle.cxl_cause.specs.RangeCauses.{entries_cause}
use Rattle.cxl_cause.proofs.targets.entries_cause.Given as goal

abbrev pub invariant-loop-entry : goal.invariant-loop-entry
invariant-loop-entry l =
    entries_cause (as_system l.host) l.range l.node 0 (entries_of l.d)
    ≡ entries_cause (as_system l.host) l.range l.node l.entry (map (entry_at l.d) (range_with_len l.entry (decoder_ways l.d - l.entry)))
