use Rattle.std.proofs.lemmas.Result.{IfOk-from_err}
use Rattle.cxl_model.specs.System.{System, system_of}
use Rattle.cxl_commands.proofs.Planned.{plan_made, refusal_made}
use Rattle.cxl_commands.proofs.commands.plan.line_outcome.Goals as goal

pub returns-in_err-plan : goal.returns-in_err-plan
returns-in_err-plan c = IfOk-from_err c.from_residual.result _ c.from_residual.ensures.0

pub returns-in-Ok : goal.returns-in-Ok
returns-in-Ok c =
    let host = c.args.host.now in
    let s : System = system_of host.image host.topo host.windows.items in
    let lent = rw c.deref.ensures.value at c.in_ok-plan.ensures.plan in
    plan_made s c.args.create.now c.in-Ok.plan (rw c.in-Ok.is at lent) c.told-outcome.result c.told-outcome.ensures

pub returns-in-Err : goal.returns-in-Err
returns-in-Err c =
    let host = c.args.host.now in
    let s : System = system_of host.image host.topo host.windows.items in
    let lent = rw c.deref.ensures.value at c.in_ok-plan.ensures.refusal in
    refusal_made s c.args.create.now c.in-Err.refusal (rw c.in-Err.is at lent) c.refused-outcome.result c.refused-outcome.ensures
