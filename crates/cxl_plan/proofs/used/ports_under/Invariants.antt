use Rattle.std.proofs.Common.{take}
use Rattle.cxl_plan.specs.inner.AtPorts.{ArePortsOf}
use Rattle.cxl_plan.proofs.used.ports_under.Given as goal

abbrev pub invariant-loop-child : goal.invariant-loop-child
invariant-loop-child l = ArePortsOf l.topo.nodes (take l.child-index l.nodes) l.node l.ports.items
