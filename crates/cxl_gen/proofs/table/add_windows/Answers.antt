use Rattle.std.proofs.Common.{arith}
use Rattle.cxl_gen.specs.Made.{made_window}
use Rattle.cxl_gen.proofs.Growing.{pushed}
use Rattle.cxl_gen.proofs.table.add_windows.Goals as goal

pub loop-j-preserved : goal.loop-j-preserved
loop-j-preserved c = pushed made_window _ _ _ 0 c.loop-j.j c.loop-j.j _ (omega arith) c.loop-j.invariant c.in_ok-made_window.ensures c.in_ok-push.ensures.items
