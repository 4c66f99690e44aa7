use Rattle.cxl_model.specs.System.{system_of}
use Rattle.cxl_held.proofs.Refusing.{refused_unchecked}
use Rattle.cxl_held.proofs.opening.open_checked.Goals as goal

pub returns-in-Err-clause-refused : goal.returns-in-Err-clause-refused
returns-in-Err-clause-refused g c =
    let host = c.args.host in
    refused_unchecked (system_of host.image host.topo host.windows.items) (g.K.Sink.state c.args.out.now) (g.K.Sink.state c.finish.new.out) c.finish.result c.in-Err.breach c.in-Err.ensures.breach c.finish.ensures.finishes
