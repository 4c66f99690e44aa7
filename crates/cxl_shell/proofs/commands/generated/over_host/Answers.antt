use Rattle.std.proofs.Common.{Err, refl, ap}
use Rattle.cxl_model.specs.System.{system_of}
use Rattle.cxl_shell.specs.Devices.{devices}
use Rattle.cxl_shell.specs.inner.Generated.{unready, opened}
use Rattle.cxl_shell.proofs.Generated.{fails-to_open}
use Rattle.cxl_shell.proofs.Scripts.{carried-out}
use Rattle.cxl_shell.proofs.commands.generated.over_host.Goals as goal

pub unopened-requires : goal.unopened-requires
unopened-requires g c = λ b is.
    let host = c.args.host in
    c.accepted_or_breach.ensures.not_both (system_of host.image host.topo host.windows.items) c.requires.made.accepted (b.rule, b.node, b.decoder, c.in-Err.ensures.breach b (ap Err is))

pub returns-in-Ok-clause-ends : goal.returns-in-Ok-clause-ends
returns-in-Ok-clause-ends g c = λ script.
    let host = c.args.host in
    let s = system_of host.image host.topo host.windows.items in
    let before = devices script (g.R.Regs.state c.args.regs.now) (g.M.Media.state c.args.media.now) in
    let after = devices script (g.R.Regs.state c.over_session-status.new.regs) (g.M.Media.state c.over_session-status.new.media) in
    let opens = c.in-Ok.ensures.opened in
    let gone = c.over_session-status.ensures.ends opens.0 opens.2 in
    opened opens.0 gone.0 gone.1 opens.1 opens.2.sound.machine gone.2.answered
    (carried-out s host.topo.frames opens.0 gone.0 gone.1 c.over_session-status.new.session host.topo.nodes (g.R.Regs.state c.open.new.regs) before after opens.1 refl c.in-Ok.ensures.enabled c.in-Ok.ensures.unfailed gone.2)
    gone.3

pub returns-in-Err-clause-ends : goal.returns-in-Err-clause-ends
returns-in-Err-clause-ends g c = λ script.
    let host = c.args.host in
    let s = system_of host.image host.topo host.windows.items in
    let before = devices script (g.R.Regs.state c.args.regs.now) (g.M.Media.state c.args.media.now) in
    let after = devices script (g.R.Regs.state c.open.new.regs) (g.M.Media.state c.open.new.media) in
    unready (fails-to_open c.args.n s c.requires.made.host_is c.requires.made.accepted host.topo.frames before after (g.K.Sink.state c.args.out.now) (g.K.Sink.state c.finish.new.out) c.finish.result c.in-Err.fault c.unopened.result
    (λ b is. c.accepted_or_breach.ensures.not_both s c.requires.made.accepted (b.rule, b.node, b.decoder, c.in-Err.ensures.breach b (ap Err is)))
    (λ n is. c.in-Err.ensures.full n (ap Err is))
    (λ is. c.in-Err.ensures.bus (ap Err is)) (λ is. c.in-Err.ensures.half_enabled (ap Err is)) (λ is. c.in-Err.ensures.memory (ap Err is)) (λ is. c.in-Err.ensures.unhidden (ap Err is))
    c.unopened.ensures.bus c.unopened.ensures.memory c.finish.ensures.finishes)
