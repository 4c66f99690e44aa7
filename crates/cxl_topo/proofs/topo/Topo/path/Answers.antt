use Rattle.std.proofs.Common.{◌+◌, ◌*◌}
use Rattle.cxl_topo.proofs.Leading.{none_before, path_leads}
use Rattle.cxl_topo.proofs.topo.Topo.path.Goals as goal

pub path_to-requires-clause-sound : goal.path_to-requires-clause-sound
path_to-requires-clause-sound c = rw c.deref.ensures.value (none_before c.self.inside.nodes.items c.self.invariant.tree (8 * c.args.ep + 9))

pub returns-clause-leads : goal.returns-clause-leads
returns-clause-leads c = rw (← c.self.view_is) (path_leads c.self.inside.nodes.items c.self.invariant.tree c.args.ep (rw (← c.self.view_is) at c.requires))
