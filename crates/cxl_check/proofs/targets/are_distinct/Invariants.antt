use Rattle.std.proofs.Common.{◌≡◌, ◌-◌, map}
use Rattle.std.specs.List.{range_with_len}
use Rattle.cxl_regs.specs.Reading.{decoder_ways, entry_at, entries_of}
use Rattle.cxl_model.specs.Rules.{are_distinct}
use Rattle.cxl_check.proofs.targets.are_distinct.Given as goal

abbrev pub invariant-loop-i : goal.invariant-loop-i
invariant-loop-i l = are_distinct (entries_of l.d) ≡ are_distinct (map (entry_at l.d) (range_with_len l.i (decoder_ways l.d - l.i)))
