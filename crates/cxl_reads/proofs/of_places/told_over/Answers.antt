use Rattle.std.proofs.lemmas.Result.{IfOk-weaker}
use Rattle.cxl_reads.proofs.Places.{told_of_files}
use Rattle.cxl_reads.proofs.of_places.told_over.Goals as goal

pub returns : goal.returns
returns c =
    let host = c.in_ok-host.host in
    let own = c.in_ok-host.ensures in
    IfOk-weaker c.told_of.result _ _
    (told_of_files c.args.table.now c.args.topo c.args.image host.topo host.image host.windows.items own.parts.0 own.parts.1 own.windows) c.told_of.ensures
