use Rattle.std.proofs.Common.{Err, ap}
use Rattle.cxl_model.specs.System.{system_of}
use Rattle.cxl_held.proofs.Refusing.{refused_by}
use Rattle.cxl_held.proofs.TrailRoom.{never_full}
use Rattle.cxl_held.proofs.opening.open_accepted.Goals as goal

pub unopened-requires : goal.unopened-requires
unopened-requires g c = λ b is.
    let host = c.args.host in
    c.accepted_or_breach.ensures.not_both (system_of host.image host.topo host.windows.items) c.requires.accepted (b.rule, b.node, b.decoder, c.in-Err.ensures.breach b (ap Err is))

pub returns-in-Err-clause-refused : goal.returns-in-Err-clause-refused
returns-in-Err-clause-refused g c =
    let host = c.args.host in
    let s = system_of host.image host.topo host.windows.items in
    refused_by s (g.K.Sink.state c.args.out.now) (g.K.Sink.state c.finish.new.out) c.finish.result c.in-Err.fault c.unopened.result
    (λ b is. c.accepted_or_breach.ensures.not_both s c.requires.accepted (b.rule, b.node, b.decoder, c.in-Err.ensures.breach b (ap Err is)))
    (λ n is. c.in-Err.ensures.full n (ap Err is))
    c.unopened.ensures.full (λ is. never_full s _ _ c.requires.system (c.in-Err.ensures.half_enabled (ap Err is)).0)
    c.unopened.ensures.memory c.finish.ensures.finishes
