use Rattle.std.proofs.Common.{◌≡◌, take}
use Rattle.std.specs.List.{filter_map}
use Rattle.cxl_reads.specs.Windows.{group_in}
use Rattle.cxl_reads.proofs.of_windows.groups_of.Given as goal

-- the groups so far
abbrev pub invariant-loop-record : goal.invariant-loop-record
invariant-loop-record l = l.groups.items ≡ filter_map group_in (take l.record-index l.records)
