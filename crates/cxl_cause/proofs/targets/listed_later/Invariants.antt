use Rattle.std.proofs.Common.{◌≡◌, ◌+◌, ◌-◌, map}
use Rattle.std.specs.List.{range_with_len}
use Rattle.cxl_regs.specs.Reading.{decoder_ways, entry_at}
use Rattle.cxl_cause.specs.RangeCauses.{entry_listing}
use Rattle.cxl_cause.proofs.targets.listed_later.Given as goal

abbrev pub invariant-loop-other : goal.invariant-loop-other
invariant-loop-other l =
    entry_listing (entry_at l.d l.entry) (l.entry + 1) (map (entry_at l.d) (range_with_len (l.entry + 1) (decoder_ways l.d - (l.entry + 1))))
    ≡ entry_listing (entry_at l.d l.entry) l.other (map (entry_at l.d) (range_with_len l.other (decoder_ways l.d - l.other)))
