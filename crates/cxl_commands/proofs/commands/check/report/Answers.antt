use Rattle.std.proofs.Common.{refl}
use Rattle.cxl_commands.specs.commands.Check.{accepted, regions_told}
use Rattle.cxl_commands.specs.inner.Reports.{ended, cut}
use Rattle.cxl_model.specs.System.{system_of}
use Rattle.cxl_commands.proofs.Checks.{report-stopped}
use Rattle.cxl_commands.proofs.commands.check.report.Goals as goal

pub returns-in-Ok-write_regions-clause-reports : goal.returns-in-Ok-write_regions-clause-reports
returns-in-Ok-write_regions-clause-reports g c =
    let found = c.in-Ok in
    let ends = rw c.deref.ensures.value at c.in-Ok-write_regions.ensures.ends in
    ended (accepted c.args.host.now.topo.nodes found.regions.items) (regions_told found.regions.items c.requires found.ensures.accepted found.ensures.regions refl) ends

pub returns-in-Ok-clause-reports : goal.returns-in-Ok-clause-reports
returns-in-Ok-clause-reports g c =
    let found = c.in-Ok in
    let lines = rw c.deref.ensures.value at c.in-Err-write_regions.ensures.behind in
    cut (accepted c.args.host.now.topo.nodes found.regions.items) (regions_told found.regions.items c.requires found.ensures.accepted found.ensures.regions refl) refl lines

pub returns-clause-reports : goal.returns-clause-reports
returns-clause-reports g c =
    let host = c.args.host.now in
    report-stopped (system_of host.image host.topo host.windows.items) (g.K.Sink.state c.args.out.now) (g.K.Sink.state c.finish.new.out) c.finish.result c.in-Err.stop c.in-Err.ensures.breach c.finish.ensures.finishes
