use Rattle.cxl_commands.specs.Outside.{outside}
use Rattle.cxl_commands.proofs.Checks.{run-reported, run-unread}
use Rattle.cxl_commands.proofs.commands.check.check.Goals as goal

pub returns-in-Ok-clause-run : goal.returns-in-Ok-clause-run
returns-in-Ok-clause-run g c =
    let host = c.in-Ok.host in
    let read = c.in-Ok.ensures.read in
    run-reported c.args.cedt.now c.args.topo.now c.args.image.now (outside (g.F.Fetch.state c.args.files.now) (g.K.Sink.state c.args.out.now)) (outside (g.F.Fetch.state c.fetch_host.new.files) (g.K.Sink.state c.report.new.out)) c.report.result read.0 host.topo host.image host.windows.items read.1 read.2 c.in-Ok.ensures.asked c.in-Ok.ensures.unfailed c.report.ensures.reports

pub returns-in-Err-clause-run : goal.returns-in-Err-clause-run
returns-in-Err-clause-run g c =
    run-unread c.args.cedt.now c.args.topo.now c.args.image.now (outside (g.F.Fetch.state c.args.files.now) (g.K.Sink.state c.args.out.now)) (outside (g.F.Fetch.state c.fetch_host.new.files) (g.K.Sink.state c.finish.new.out)) c.finish.result c.in-Err.stop c.in-Err.ensures.stops c.finish.ensures.finishes
