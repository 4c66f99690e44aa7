use Rattle.std.proofs.Common.{take}
use Rattle.cxl_plan.proofs.StatedRows.{AreRows}
use Rattle.cxl_plan.proofs.rows.rows.Given as goal

abbrev pub invariant-loop-node : goal.invariant-loop-node
invariant-loop-node l = AreRows l.host.topo.now.nodes l.host.image.now l.request l.w l.base (take l.node-index l.node-items) l.rows.items
