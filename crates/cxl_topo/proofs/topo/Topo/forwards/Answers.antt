use Rattle.cxl_topo.proofs.topo.Topo.forwards.Goals as goal

pub returns : goal.returns
returns c = rw c.node.ensures
