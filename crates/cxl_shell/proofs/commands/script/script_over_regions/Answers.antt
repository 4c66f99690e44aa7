use Rattle.std.proofs.Common.{Err, refl, ap, inr}
use Rattle.cxl_model.specs.System.{system_of}
use Rattle.cxl_shell.specs.Devices.{devices}
use Rattle.cxl_shell.specs.inner.Scripts.{opened}
use Rattle.cxl_shell.proofs.Scripts.{carried-out, not-opened, starts_session, not_refused}
use Rattle.cxl_shell.proofs.commands.script.script_over_regions.Goals as goal

pub unopened-requires : goal.unopened-requires
unopened-requires g c = λ b is. c.in-Err.ensures.breach b (ap Err is)

pub returns-in-Ok-clause-ends : goal.returns-in-Ok-clause-ends
returns-in-Ok-clause-ends g c =
    let host = c.args.host in
    let s = system_of host.image host.topo host.windows.items in
    let before = devices (g.S.Source.state c.args.source.now) (g.R.Regs.state c.args.regs.now) (g.M.Media.state c.args.media.now) in
    let after = devices (g.S.Source.state c.over_session-status.new.source) (g.R.Regs.state c.over_session-status.new.regs) (g.M.Media.state c.over_session-status.new.media) in
    let opens = c.in-Ok.ensures.opened in
    let gone = c.over_session-status.ensures.ends opens.0 opens.2 in
    opened opens.0 gone.0 gone.1 opens.1 opens.2.sound.machine gone.2.answered
    (carried-out s host.topo.frames opens.0 gone.0 gone.1 c.over_session-status.new.session host.topo.nodes (g.R.Regs.state c.open_accepted.new.regs) before after opens.1 refl c.in-Ok.ensures.enabled c.in-Ok.ensures.unfailed gone.2)
    gone.3

pub returns-in-Err-clause-ends : goal.returns-in-Err-clause-ends
returns-in-Err-clause-ends g c =
    let host = c.args.host in
    let s = system_of host.image host.topo host.windows.items in
    let before = devices (g.S.Source.state c.args.source.now) (g.R.Regs.state c.args.regs.now) (g.M.Media.state c.args.media.now) in
    let after = devices (g.S.Source.state c.args.source.now) (g.R.Regs.state c.open_accepted.new.regs) (g.M.Media.state c.open_accepted.new.media) in
    not-opened s host.topo.frames before after (g.K.Sink.state c.args.out.now) (g.K.Sink.state c.finish.new.out) c.finish.result refl c.in-Err.fault c.unopened.result
    (λ b is. c.in-Err.ensures.breach b (ap Err is))
    (λ n is. c.in-Err.ensures.full n (ap Err is))
    (λ refused. let left = c.in-Err.ensures.untouched refused in (ap g.R.Regs.state left.0, ap g.M.Media.state left.1))
    (λ is. starts_session s c.requires.accepted (λ n has more. not_refused n (ap Err is) (inr (c.in-Err.ensures.filled n has more))))
    (λ is. c.in-Err.ensures.bus (ap Err is)) (λ is. c.in-Err.ensures.half_enabled (ap Err is)) (λ is. c.in-Err.ensures.memory (ap Err is)) (λ is. c.in-Err.ensures.unhidden (ap Err is))
    c.unopened.ensures.full c.unopened.ensures.bus c.unopened.ensures.memory c.finish.ensures.finishes
