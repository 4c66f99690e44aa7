use Rattle.std.proofs.Common.{not, ap}
use Rattle.cxl_topo.proofs.topo.Topo.is_port.Goals as goal

pub returns : goal.returns
returns c = rw c.node.ensures (ap not c.is_endpoint.ensures)
