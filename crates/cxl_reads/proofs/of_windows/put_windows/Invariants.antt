use Rattle.std.proofs.Common.{◌≡◌, ◌++◌, take}
use Rattle.std.specs.List.{flat_map, zip}
use Rattle.cxl_reads.specs.Windows.{seen_line}
use Rattle.cxl_reads.proofs.of_windows.put_windows.Given as goal

-- the lines so far are appended
abbrev pub invariant-loop-i : goal.invariant-loop-i
invariant-loop-i l = l.out.items ≡ l.fn.out.items ++ flat_map (seen_line l.records) (zip (take l.i l.windows) (take l.i l.groups))
