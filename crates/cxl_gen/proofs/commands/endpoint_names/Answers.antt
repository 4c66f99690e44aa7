use Rattle.std.proofs.Common.{[], ◌+◌, ◌*◌, arith}
use Rattle.cxl_gen.specs.Made.{endpoint_name}
use Rattle.cxl_gen.proofs.Growing.{pushed}
use Rattle.cxl_gen.proofs.commands.endpoint_names.Goals as goal

pub loop-k-preserved : goal.loop-k-preserved
loop-k-preserved c =
    pushed endpoint_name [] _ _ (4 * c.args.j) c.loop-k.k (4 * c.args.j + c.loop-k.k) _ (omega arith) c.loop-k.invariant c.in_ok-made_name.ensures c.in_ok-push.ensures.items
