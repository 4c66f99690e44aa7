use Rattle.std.proofs.lemmas.Result.{IfOk-from_err}
use Rattle.cxl_commands.proofs.commands.check.checked.Goals as goal

pub returns-in_err-broken-in-Err-Breach-clause-accepted : goal.returns-in_err-broken-in-Err-Breach-clause-accepted
returns-in_err-broken-in-Err-Breach-clause-accepted c = IfOk-from_err c.from_residual.result _ c.from_residual.ensures.0

pub returns-in_err-broken-in-Err-Breach-clause-regions : goal.returns-in_err-broken-in-Err-Breach-clause-regions
returns-in_err-broken-in-Err-Breach-clause-regions c = IfOk-from_err c.from_residual.result _ c.from_residual.ensures.0

pub returns-in_err-broken-in-Err-Breach-clause-told : goal.returns-in_err-broken-in-Err-Breach-clause-told
returns-in_err-broken-in-Err-Breach-clause-told c = IfOk-from_err c.from_residual.result _ c.from_residual.ensures.0

pub returns-in-Ok-clause-told : goal.returns-in-Ok-clause-told
returns-in-Ok-clause-told c = λ k d within.
    let regions = rw c.deref.ensures.value at c.in-Ok.ensures.regions in
    c.findings_are_told.ensures.regions _ _ c.requires (regions.listed.each k d within)
