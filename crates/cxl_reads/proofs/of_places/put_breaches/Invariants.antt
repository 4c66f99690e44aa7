use Rattle.std.proofs.Common.{◌≡◌, ◌++◌, take}
use Rattle.std.specs.List.{flat_map}
use Rattle.cxl_reads.specs.Breaches.{breach_line}
use Rattle.cxl_reads.proofs.of_places.put_breaches.Given as goal

-- the lines so far are appended
abbrev pub invariant-loop-b : goal.invariant-loop-b
invariant-loop-b l = l.out.items ≡ l.fn.out.items ++ flat_map (breach_line l.topo.nodes) (take l.b-index l.found)
