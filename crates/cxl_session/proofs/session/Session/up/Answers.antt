use Rattle.std.proofs.Common.{ap, refl}
use Rattle.cxl_machine.specs.Accesses.{told}
use Rattle.cxl_session.specs.State.{SessionState}
use Rattle.cxl_session.proofs.Poisons.{endpoint_there}
use Rattle.cxl_session.proofs.session.Session.up.Goals as goal

pub returns-in-Some : goal.returns-in-Some
returns-in-Some c = λ m stands is.
    let at = endpoint_there c.args.self.now m stands c.self.inside.topo c.args.up.endpoint c.in-Some.endpoint (ap (λ (s : SessionState). s.topo) c.self.view_is) c.in-Some.ensures.endpoint in
    told c.in-Some.endpoint c.told_host.result at (c.told_host.ensures m stands is) refl
