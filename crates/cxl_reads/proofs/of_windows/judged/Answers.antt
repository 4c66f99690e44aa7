use Rattle.std.proofs.Common.{length, ap, ◌∙◌}
use Rattle.std.proofs.lemmas.Result.{IfOk-weaker}
use Rattle.cxl_reads.proofs.Groups.{group_each}
use Rattle.cxl_reads.proofs.of_windows.judged.Goals as goal

pub returns-clause-one_each : goal.returns-clause-one_each
returns-clause-one_each c =
    IfOk-weaker c.windows.result _ _ (λ ws are. ap length are ∙ group_each c.args.table.now.records c.uids.result.now) c.windows.ensures.windows
