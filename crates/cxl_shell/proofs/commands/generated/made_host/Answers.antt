use Rattle.std.proofs.Common.{sym, subst}
use Rattle.cxl_model.specs.System.{system_of}
use Rattle.cxl_regs.specs.Registers.{Registers}
use Rattle.cxl_topo.specs.Tree.{Tree}
use Rattle.std.specs.Prelude.{List}
use Rattle.cxl_shell.proofs.Generated.{host-made}
use Rattle.cxl_shell.specs.inner.Generated.{IsMadeHost}
use Rattle.cxl_shell.proofs.commands.generated.made_host.Goals as goal

pub returns : goal.returns
returns c =
    let cedt = c.in_ok-cedt.cedt in
    let topo = c.in_ok-topo.topo in
    let image = c.in-Ok.image in
    let host = c.in_ok-host.host in
    let is = c.in_ok-host.ensures in
    subst (λ (tree : Tree). IsMadeHost c.args.n (system_of host.image tree host.windows.items) tree) (sym is.parts.0)
    (subst (λ (blocks : List Registers). IsMadeHost c.args.n (system_of blocks topo host.windows.items) topo) (sym is.parts.1)
    (host-made c.args.n cedt topo image host.windows.items c.in_ok-cedt.ensures c.in_ok-topo.ensures c.in-Ok.ensures.reset is.windows is.system
    c.reset_hosts_are_accepted.ensures))
