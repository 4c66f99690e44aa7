use Rattle.cxl_commands.proofs.Routes.{routed_by}
use Rattle.cxl_commands.proofs.commands.route.routed.Goals as goal

pub returns : goal.returns
returns c =
    let selected = rw (c.deref.ensures.value, c.in_ok-windows.ensures.windows) at c.select.ensures in
    routed_by c.args.table.now c.args.h c.select.result c.answer.result selected c.answer.ensures.some c.answer.ensures.none
