use Rattle.cxl_model.specs.System.{system_of}
use Rattle.cxl_shell.specs.Devices.{devices}
use Rattle.cxl_shell.specs.inner.Scripts.{whole}
use Rattle.cxl_shell.proofs.Scripts.{not-checked}
use Rattle.cxl_shell.proofs.commands.script.script_from_image.Goals as goal

pub returns-in-Ok-clause-ends : goal.returns-in-Ok-clause-ends
returns-in-Ok-clause-ends g c = whole c.script_over_regions.ensures.ends

pub returns-in-Err-clause-ends : goal.returns-in-Err-clause-ends
returns-in-Err-clause-ends g c =
    let host = c.args.host in
    not-checked (system_of host.image host.topo host.windows.items) host.topo.frames
    (devices (g.S.Source.state c.args.source.now) (g.R.Regs.state c.args.regs.now) (g.M.Media.state c.args.media.now))
    (g.K.Sink.state c.args.out.now) (g.K.Sink.state c.finish.new.out) c.finish.result c.in-Err.stop c.in-Err.ensures.breach c.finish.ensures.finishes
