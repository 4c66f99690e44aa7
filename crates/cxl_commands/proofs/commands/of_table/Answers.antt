use Rattle.std.proofs.Common.{refl}
use Rattle.cxl_commands.specs.Form.{Route, Normal}
use Rattle.cxl_commands.proofs.Stops.{run-finished}
use Rattle.cxl_commands.proofs.commands.of_table.Goals as goal

pub returns-in-Route-clause-run : goal.returns-in-Route-clause-run
returns-in-Route-clause-run g c =
    rw c.in-Route.is (run-finished (Route c.args.cedt.now c.in-Route.h) _ _ _ refl c.route.result c.route.ensures.comes c.finish.ensures.finishes)

pub returns-in-Normal-clause-run : goal.returns-in-Normal-clause-run
returns-in-Normal-clause-run g c =
    rw c.in-Normal.is (run-finished (Normal c.args.cedt.now) _ _ _ refl c.normal.result c.normal.ensures.comes c.finish-in-Normal.ensures.finishes)
