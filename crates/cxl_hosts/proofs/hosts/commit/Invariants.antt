use Rattle.std.proofs.Common.{List}
use Rattle.cxl_topo.specs.declared.node.Node.{Node}
use Rattle.cxl_image.specs.Images.{HasCapsOf}
use Rattle.cxl_hosts.proofs.hosts.commit.Given as goal

abbrev pub invariant-loop-place : goal.invariant-loop-place
invariant-loop-place g l = (nodes : List Node) → HasCapsOf l.initial.image nodes → HasCapsOf l.image nodes
