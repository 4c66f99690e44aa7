use Rattle.std.proofs.Common.{◌≡◌, ◌++◌}
use Rattle.std.specs.Prelude.{map}
use Rattle.std.specs.List.{range_with_len}
use Rattle.cxl_gen.specs.Made.{made_window}
use Rattle.cxl_gen.proofs.table.add_windows.Given as goal

abbrev pub invariant-loop-j : goal.invariant-loop-j
invariant-loop-j l = l.records.items ≡ l.initial.records.items ++ map made_window (range_with_len 0 l.j)
