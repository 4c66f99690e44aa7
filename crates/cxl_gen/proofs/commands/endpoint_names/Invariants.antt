use Rattle.std.proofs.Common.{◌≡◌, ◌*◌}
use Rattle.std.specs.Prelude.{map}
use Rattle.std.specs.List.{range_with_len}
use Rattle.cxl_gen.specs.Made.{endpoint_name}
use Rattle.cxl_gen.proofs.commands.endpoint_names.Given as goal

abbrev pub invariant-loop-k : goal.invariant-loop-k
invariant-loop-k l = l.names.items ≡ map endpoint_name (range_with_len (4 * l.j) l.k)
