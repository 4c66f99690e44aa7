use Rattle.std.proofs.lemmas.Result.{IfOk-from_err}
use Rattle.std.proofs.Common.{sym, subst, ◌∙◌}
use Rattle.cxl_image.specs.Images.{reset_blocks}
use Rattle.cxl_model.specs.Accepted.{IsAccepted}
use Rattle.cxl_model.specs.System.{IsSystem, system_of}
use Rattle.cxl_topo.specs.Tree.{Tree}
use Rattle.cxl_inputs.proofs.reset_host.after_reset.Goals as goal

pub returns-in_err-image-clause-topo : goal.returns-in_err-image-clause-topo
returns-in_err-image-clause-topo c = IfOk-from_err c.from_residual.result _ c.from_residual.ensures.0

pub returns-in_err-image-clause-windows : goal.returns-in_err-image-clause-windows
returns-in_err-image-clause-windows c = IfOk-from_err c.from_residual.result _ c.from_residual.ensures.0

pub returns-in_err-image-clause-reset : goal.returns-in_err-image-clause-reset
returns-in_err-image-clause-reset c = IfOk-from_err c.from_residual.result _ c.from_residual.ensures.0

pub returns-in_err-image-clause-system : goal.returns-in_err-image-clause-system
returns-in_err-image-clause-system c = IfOk-from_err c.from_residual.result _ c.from_residual.ensures.0

pub returns-in_err-image-clause-accepted : goal.returns-in_err-image-clause-accepted
returns-in_err-image-clause-accepted c = IfOk-from_err c.from_residual.result _ c.from_residual.ensures.0

pub returns-in_err-host-clause-topo : goal.returns-in_err-host-clause-topo
returns-in_err-host-clause-topo c = IfOk-from_err c.from_residual-in_err-host.result _ c.from_residual-in_err-host.ensures.0

pub returns-in_err-host-clause-windows : goal.returns-in_err-host-clause-windows
returns-in_err-host-clause-windows c = IfOk-from_err c.from_residual-in_err-host.result _ c.from_residual-in_err-host.ensures.0

pub returns-in_err-host-clause-reset : goal.returns-in_err-host-clause-reset
returns-in_err-host-clause-reset c = IfOk-from_err c.from_residual-in_err-host.result _ c.from_residual-in_err-host.ensures.0

pub returns-in_err-host-clause-system : goal.returns-in_err-host-clause-system
returns-in_err-host-clause-system c = IfOk-from_err c.from_residual-in_err-host.result _ c.from_residual-in_err-host.ensures.0

pub returns-in_err-host-clause-accepted : goal.returns-in_err-host-clause-accepted
returns-in_err-host-clause-accepted c = IfOk-from_err c.from_residual-in_err-host.result _ c.from_residual-in_err-host.ensures.0

pub returns-clause-accepted : goal.returns-clause-accepted
returns-clause-accepted c =
    let topo = c.args.topo in
    let host = c.in_ok-host.host in
    let parts = c.in_ok-host.ensures.parts in
    let system = subst (λ blocks. IsSystem (system_of blocks topo host.windows.items)) c.in_ok-image.ensures.reset c.in_ok-host.ensures.system in
    subst (λ blocks. IsAccepted (system_of blocks host.topo host.windows.items)) (sym (parts.1 ∙ c.in_ok-image.ensures.reset))
    (subst (λ (tree : Tree). IsAccepted (system_of (reset_blocks topo.nodes) tree host.windows.items)) (sym parts.0)
    (c.reset_hosts_are_accepted.ensures topo host.windows.items system))
