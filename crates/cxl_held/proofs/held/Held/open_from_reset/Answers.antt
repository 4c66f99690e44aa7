use Rattle.std.proofs.Common.{None, refl}
use Rattle.cxl_model.specs.System.{system_of}
use Rattle.cxl_held.proofs.Hosts.{reset_is, opened_over, kept_over, refused_over, stopped, asked_over}
use Rattle.cxl_held.proofs.held.Held.open_from_reset.Goals as goal

pub returns-in-Ok-clause-opened : goal.returns-in-Ok-clause-opened
returns-in-Ok-clause-opened g c =
    let host = c.in-Ok.host in
    let read = c.in-Ok.ensures.read in
    opened_over c.args.cedt.now c.args.topo.now None (g.F.Fetch.state c.args.files.now) (g.F.Fetch.state c.fetch_reset_host.new.files) (g.K.Sink.state c.args.out.now) (g.K.Sink.state c.open_accepted.new.out)
    (system_of host.image host.topo host.windows.items) host.topo.frames (read.0, host.topo, read.1, reset_is read.0 host.topo host.image host.windows.items read.2 c.in-Ok.ensures.reset, refl) c.open_accepted.result c.open_accepted.ensures.opened

pub returns-in-Ok-clause-unopened : goal.returns-in-Ok-clause-unopened
returns-in-Ok-clause-unopened g c =
    let host = c.in-Ok.host in
    let read = c.in-Ok.ensures.read in
    refused_over c.args.cedt.now c.args.topo.now None (g.F.Fetch.state c.args.files.now) _ (g.K.Sink.state c.args.out.now) (g.K.Sink.state c.open_accepted.new.out)
    (system_of host.image host.topo host.windows.items) host.topo.frames (read.0, host.topo, read.1, reset_is read.0 host.topo host.image host.windows.items read.2 c.in-Ok.ensures.reset, refl) c.open_accepted.result c.open_accepted.ensures.refused

pub returns-in-Err-clause-unopened : goal.returns-in-Err-clause-unopened
returns-in-Err-clause-unopened g c =
    stopped c.args.cedt.now c.args.topo.now None (g.F.Fetch.state c.args.files.now) (g.F.Fetch.state c.fetch_reset_host.new.files) (g.K.Sink.state c.args.out.now) (g.K.Sink.state c.finish.new.out)
    _ c.in-Err.stop c.finish.result c.in-Err.ensures.stops c.finish.ensures.finishes

pub returns-in-Ok-clause-kept : goal.returns-in-Ok-clause-kept
returns-in-Ok-clause-kept g c =
    let host = c.in-Ok.host in
    kept_over (system_of host.image host.topo host.windows.items) host.topo.frames c.open_accepted.result c.open_accepted.ensures.opened

pub returns-in-Ok-clause-asked : goal.returns-in-Ok-clause-asked
returns-in-Ok-clause-asked g c = asked_over c.open_accepted.result _ c.in-Ok.ensures.asked
