use Rattle.std.proofs.Common.{[], ◌∷◌}
use Rattle.std.proofs.lemmas.Result.{IfOk-from_err, err_from_is_err_and}
use Rattle.cxl_inputs.specs.File.{RunsOutBehind}
use Rattle.cxl_inputs.specs.ResetHost.{HasNoResetHost}
use Rattle.cxl_inputs.proofs.Stops.{stop-memory}
use Rattle.cxl_inputs.proofs.reset_host.fetch_reset_host.Goals as goal

pub returns-in_err-table-clause-read : goal.returns-in_err-table-clause-read
returns-in_err-table-clause-read g c = IfOk-from_err c.from_residual.result _ c.from_residual.ensures.0

pub returns-in_err-table-clause-reset : goal.returns-in_err-table-clause-reset
returns-in_err-table-clause-reset g c = IfOk-from_err c.from_residual.result _ c.from_residual.ensures.0

pub returns-in_err-table-clause-system : goal.returns-in_err-table-clause-system
returns-in_err-table-clause-system g c = IfOk-from_err c.from_residual.result _ c.from_residual.ensures.0

pub returns-in_err-table-clause-accepted : goal.returns-in_err-table-clause-accepted
returns-in_err-table-clause-accepted g c = IfOk-from_err c.from_residual.result _ c.from_residual.ensures.0

pub returns-in_err-table-clause-asked : goal.returns-in_err-table-clause-asked
returns-in_err-table-clause-asked g c = IfOk-from_err c.from_residual.result _ c.from_residual.ensures.0

pub returns-in_err-table-clause-unfailed : goal.returns-in_err-table-clause-unfailed
returns-in_err-table-clause-unfailed g c = IfOk-from_err c.from_residual.result _ c.from_residual.ensures.0

pub returns-in_err-host-clause-read : goal.returns-in_err-host-clause-read
returns-in_err-host-clause-read g c = IfOk-from_err c.from_residual-in_err-host.result _ c.from_residual-in_err-host.ensures.0

pub returns-in_err-host-clause-reset : goal.returns-in_err-host-clause-reset
returns-in_err-host-clause-reset g c = IfOk-from_err c.from_residual-in_err-host.result _ c.from_residual-in_err-host.ensures.0

pub returns-in_err-host-clause-system : goal.returns-in_err-host-clause-system
returns-in_err-host-clause-system g c = IfOk-from_err c.from_residual-in_err-host.result _ c.from_residual-in_err-host.ensures.0

pub returns-in_err-host-clause-accepted : goal.returns-in_err-host-clause-accepted
returns-in_err-host-clause-accepted g c = IfOk-from_err c.from_residual-in_err-host.result _ c.from_residual-in_err-host.ensures.0

pub returns-in_err-host-clause-asked : goal.returns-in_err-host-clause-asked
returns-in_err-host-clause-asked g c = IfOk-from_err c.from_residual-in_err-host.result _ c.from_residual-in_err-host.ensures.0

pub returns-in_err-host-clause-unfailed : goal.returns-in_err-host-clause-unfailed
returns-in_err-host-clause-unfailed g c = IfOk-from_err c.from_residual-in_err-host.result _ c.from_residual-in_err-host.ensures.0

pub returns-in_err-host-clause-stops : goal.returns-in_err-host-clause-stops
returns-in_err-host-clause-stops g c =
    let p = err_from_is_err_and c.from_residual-in_err-host.result c.from_residual-in_err-host.ensures.1 in
    let cedt = c.args.cedt.now in
    let topo = c.args.topo.now in
    let old = g.F.Fetch.state c.args.files.now in
    let new = g.F.Fetch.state c.fetch_both.new.files in
    rw p.1 (stop-memory (HasNoResetHost cedt topo old new) (RunsOutBehind (cedt ∷ topo ∷ []) old new) _ p.2
    (record { asked = record { count = 2; asks = c.in_ok-table.ensures.asked }; unfailed = c.in_ok-table.ensures.unfailed }))
