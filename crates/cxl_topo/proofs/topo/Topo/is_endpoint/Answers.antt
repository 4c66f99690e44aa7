use Rattle.cxl_topo.proofs.topo.Topo.is_endpoint.Goals as goal

pub returns : goal.returns
returns c = rw c.node.ensures c.is_endpoint.ensures
