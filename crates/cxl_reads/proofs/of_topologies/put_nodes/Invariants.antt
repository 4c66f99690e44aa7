use Rattle.std.proofs.Common.{◌≡◌, ◌++◌, take}
use Rattle.std.specs.List.{flat_map, enumerate_from}
use Rattle.cxl_reads.specs.Tree.{node_line}
use Rattle.cxl_reads.proofs.of_topologies.put_nodes.Given as goal

-- the lines so far are appended
abbrev pub invariant-loop-i : goal.invariant-loop-i
invariant-loop-i l = l.out.items ≡ l.fn.out.items ++ flat_map (node_line l.topo.nodes) (enumerate_from 0 (take l.i l.topo.nodes))
