use Rattle.std.proofs.Common.{refl}
use Rattle.std.proofs.lemmas.Bool.{false≢true, eqb-true, eq-eqb}
use Rattle.cxl_model.specs.Hosts.{as_system}
use Rattle.cxl_model.specs.Chain.{Routed}
use Rattle.cxl_walk.specs.Routes.{routing_of}
use Rattle.cxl_walk.proofs.Comings.{same_byte, not_missed}
use Rattle.cxl_trace.proofs.hosts.reaches.Goals as goal

pub returns-then-route-ep : goal.returns-then-route-ep
returns-then-route-ep c = (
  λ is. (
    c.in-Ok.route.base,
    record {
      routing = routing_of c.in-Ok.route;
      chain = c.in-Ok.ensures.chain;
      endpoint = c.if-route-ep.true;
      byte = eqb-true c.in-Ok.route.dpa c.args.dpa is;
      base = refl;
    },
  ),
  λ reaches. eq-eqb c.in-Ok.route.dpa c.args.dpa
      (same_byte (as_system c.args.host.now) c.args.ep c.args.dpa reaches.0 c.args.h (routing_of c.in-Ok.route) reaches.1 (c.in-Ok.ensures.only (Routed reaches.1.routing) reaches.1.chain)).1,
)

pub returns-else-route-ep : goal.returns-else-route-ep
returns-else-route-ep c = (
  λ is. absurd (c.if-route-ep.false (eqb-true c.in-Ok.route.endpoint c.args.ep is)),
  λ reaches. eq-eqb c.in-Ok.route.endpoint c.args.ep
      (same_byte (as_system c.args.host.now) c.args.ep c.args.dpa reaches.0 c.args.h (routing_of c.in-Ok.route) reaches.1 (c.in-Ok.ensures.only (Routed reaches.1.routing) reaches.1.chain)).0,
)

pub returns-in-Err : goal.returns-in-Err
returns-in-Err c = (
  λ is. absurd (false≢true is),
  λ reaches. absurd (not_missed reaches.1.routing _ (c.in-Err.ensures.only (Routed reaches.1.routing) reaches.1.chain)),
)
