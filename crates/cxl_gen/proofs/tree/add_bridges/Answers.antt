use Rattle.std.proofs.Common.{arith}
use Rattle.cxl_gen.specs.Made.{made_bridge}
use Rattle.cxl_gen.proofs.Growing.{pushed}
use Rattle.cxl_gen.proofs.tree.add_bridges.Goals as goal

pub loop-i-preserved : goal.loop-i-preserved
loop-i-preserved c = pushed made_bridge _ _ _ 0 c.loop-i.i c.loop-i.i _ (omega arith) c.loop-i.invariant c.in_ok-made_bridge.ensures c.in_ok-push.ensures.items
