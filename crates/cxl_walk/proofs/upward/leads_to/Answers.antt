use Rattle.cxl_model.specs.System.{system_of}
use Rattle.cxl_model.specs.Chain.{Routed}
use Rattle.cxl_walk.specs.Routes.{routing_of}
use Rattle.cxl_walk.proofs.Comings.{same_byte, not_missed}
use Rattle.cxl_walk.proofs.upward.leads_to.Goals as goal

pub returns-in_default-clause-none : goal.returns-in_default-clause-none
returns-in_default-clause-none c = λ first comes.
    c.if-route-dpa.false (same_byte (system_of c.args.image.now c.args.topo.now c.args.windows.now) c.args.ep c.args.dpa first c.args.h (routing_of c.in-Ok.route) comes (c.in-Ok.ensures.only (Routed comes.routing) comes.chain)).1

pub returns-in_default-2-clause-none : goal.returns-in_default-2-clause-none
returns-in_default-2-clause-none c = λ first comes.
    c.if-route-ep.false (same_byte (system_of c.args.image.now c.args.topo.now c.args.windows.now) c.args.ep c.args.dpa first c.args.h (routing_of c.in-Ok.route) comes (c.in-Ok.ensures.only (Routed comes.routing) comes.chain)).0

pub returns-in_default-3-clause-none : goal.returns-in_default-3-clause-none
returns-in_default-3-clause-none c = λ first comes.
    not_missed comes.routing _ (c.in_default.ensures.only (Routed comes.routing) comes.chain)
