use Rattle.std.proofs.Common.{◌≡◌, ◌≤◌, map}
use Rattle.std.specs.List.{range_with_len}
use Rattle.std.specs.Vec.{vec_capacity}
use Rattle.cxl_model.specs.Listed.{region_limit}
use Rattle.cxl_machine.specs.Sound.{auto_name}
use Rattle.cxl_opening.proofs.keeping.auto_names.Given as goal

abbrev pub invariant-loop-i : goal.invariant-loop-i
invariant-loop-i l = record {
  names : l.names.items ≡ map auto_name (range_with_len 0 l.i);
  room : region_limit ≤ vec_capacity l.names;
}
