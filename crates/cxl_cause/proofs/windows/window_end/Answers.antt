use Rattle.std.proofs.Common.{arith}
use Rattle.cxl_cause.proofs.UsableWindows.{ends_low}
use Rattle.cxl_cause.proofs.windows.window_end.Goals as goal

pub overflow_add-result : goal.overflow_add-result
overflow_add-result c = omega (arith, ends_low c.args.w.now c.index-index.ensures.window c.requires)
