use Rattle.std.proofs.Common.{◌≡◌}
use Rattle.std.specs.List.{filter_map, range_with_len}
use Rattle.cxl_topo.specs.Tree.{child_of}
use Rattle.cxl_pick.proofs.children.children_of.Given as goal

abbrev pub invariant-loop-port : goal.invariant-loop-port
invariant-loop-port l = l.own.items ≡ filter_map (child_of l.topo.nodes l.node) (range_with_len 0 l.port)
