use Rattle.std.proofs.Common.{◌+◌, ◌%◌, ◌^◌, ap}
use Rattle.std.specs.Prelude.{◌==◌, ◌&&◌}
use Rattle.std.proofs.lemmas.Bool.{and_parts, leb-true}
use Rattle.cxl_topo.specs.Kinds.{capacity_of}
use Rattle.cxl_topo.proofs.device.capacity_at.Goals as goal

pub returns-in-Endpoint-clause-small : goal.returns-in-Endpoint-clause-small
returns-in-Endpoint-clause-small c =
    let capacity = c.in-Endpoint.capacity in
    let whole = c.count-count.ensures.tree.capacities c.args.node c.node.result.now capacity c.node.ensures (ap capacity_of c.in-Endpoint.is) in
    leb-true (capacity.ram + capacity.pmem) (2 ^ 52) (and_parts ((capacity.ram % 2 ^ 28 == 0) && (capacity.pmem % 2 ^ 28 == 0)) _ whole).1
