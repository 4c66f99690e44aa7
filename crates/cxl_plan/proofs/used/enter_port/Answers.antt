use Rattle.std.proofs.Common.{Some, None}
use Rattle.cxl_topo.proofs.There.{parent_there}
use Rattle.cxl_plan.proofs.used.enter_port.Goals as goal

pub returns-in-Some : goal.returns-in-Some
returns-in-Some c =
    let up = parent_there c.args.topo.now.nodes c.args.child c.node.result.now (Some c.in-Some.parent) c.node.ensures c.in-Some.is in
    rw up c.enter_port_of.ensures

pub returns-in-None : goal.returns-in-None
returns-in-None c =
    let none = parent_there c.args.topo.now.nodes c.args.child c.node.result.now None c.node.ensures c.in-None.is in
    rw none (λ p limit le old. old)
