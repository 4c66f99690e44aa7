use Rattle.std.proofs.Common.{◌≡◌, ◌++◌}
use Rattle.std.specs.Prelude.{map}
use Rattle.std.specs.List.{range_with_len}
use Rattle.cxl_gen.specs.Made.{made_bridge}
use Rattle.cxl_gen.proofs.tree.add_bridges.Given as goal

abbrev pub invariant-loop-i : goal.invariant-loop-i
invariant-loop-i l = l.nodes.items ≡ l.initial.nodes.items ++ map made_bridge (range_with_len 0 l.i)
