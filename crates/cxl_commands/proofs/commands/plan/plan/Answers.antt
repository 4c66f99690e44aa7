use Rattle.std.proofs.Common.{Err, ap, ◌∙◌}
use Rattle.std.proofs.lemmas.Result.{err_from_is_err_and}
use Rattle.cxl_inputs.specs.ResetHost.{no_reset_host}
use Rattle.cxl_commands.specs.Form as forms
use Rattle.cxl_commands.proofs.Planned.{plan-comes}
use Rattle.cxl_commands.proofs.Stops.{comes-stopped, comes-out_of_memory}
use Rattle.cxl_commands.proofs.commands.plan.plan.Goals as goal

pub returns-in_err-host-clause-comes : goal.returns-in_err-host-clause-comes
returns-in_err-host-clause-comes g c =
    let p = err_from_is_err_and c.from_residual.result c.from_residual.ensures.1 in
    comes-stopped (forms.Plan c.args.cedt.now c.args.topo.now c.args.create.now) _ _ _ c.from_residual.result _ (p.1 ∙ ap Err p.2) (λ o none. no_reset_host none) c.in_err-host.ensures.stops

pub returns-in_err-outcome-clause-comes : goal.returns-in_err-outcome-clause-comes
returns-in_err-outcome-clause-comes g c =
    let p = err_from_is_err_and c.from_residual-in_err-outcome.result c.from_residual-in_err-outcome.ensures.1 in
    comes-out_of_memory (forms.Plan c.args.cedt.now c.args.topo.now c.args.create.now) _ _ c.from_residual-in_err-outcome.result _ p.1 p.2 (record { asked = record { count = 2; asks = c.in_ok-host.ensures.asked }; unfailed = c.in_ok-host.ensures.unfailed })

pub returns-clause-comes : goal.returns-clause-comes
returns-clause-comes g c =
    let host = c.in_ok-host.host in
    let read = c.in_ok-host.ensures.read in
    plan-comes c.args.cedt.now c.args.topo.now c.args.create.now _ _ read.0 host.topo host.image host.windows.items _ read.1 read.2 c.in_ok-host.ensures.reset c.in_ok-host.ensures.asked c.in_ok-outcome.ensures
