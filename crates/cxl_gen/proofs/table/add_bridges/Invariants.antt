use Rattle.std.proofs.Common.{◌≡◌, ◌++◌}
use Rattle.std.specs.Prelude.{map}
use Rattle.std.specs.List.{range_with_len}
use Rattle.cxl_gen.specs.Made.{made_chbs}
use Rattle.cxl_gen.proofs.table.add_bridges.Given as goal

abbrev pub invariant-loop-i : goal.invariant-loop-i
invariant-loop-i l = l.records.items ≡ l.initial.records.items ++ map made_chbs (range_with_len 0 l.i)
