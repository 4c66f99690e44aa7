use Rattle.std.proofs.Common.{inl, refl, subst}
use Rattle.cxl_inputs.proofs.Stops.{writes_nothing}
use Rattle.cxl_topo.specs.Tree.{Tree}
use Rattle.cxl_shell.specs.Devices.{devices}
use Rattle.cxl_shell.specs.commands.Script.{memory}
use Rattle.cxl_shell.specs.inner.Generated.{made_host, EndsMade, unready}
use Rattle.cxl_shell.proofs.commands.generated.generated.Goals as goal

pub returns-in-Ok-clause-ends : goal.returns-in-Ok-clause-ends
returns-in-Ok-clause-ends g c = λ script.
    let host = c.in-Ok.host in
    let before = devices script (g.R.Regs.state c.args.regs.now) (g.M.Media.state c.args.media.now) in
    let after = devices script (g.R.Regs.state c.over_host.new.regs) (g.M.Media.state c.over_host.new.media) in
    let old = g.K.Sink.state c.args.out.now in
    let new = g.K.Sink.state c.over_host.new.out in
    subst (λ (t : Tree). EndsMade c.args.n (made_host c.args.n) t.frames before after old new c.over_host.result) c.in-Ok.ensures.tree_is
    (subst (λ s. EndsMade c.args.n s host.topo.frames before after old new c.over_host.result) c.in-Ok.ensures.host_is (c.over_host.ensures.ends script))

pub returns-in-Err-clause-ends : goal.returns-in-Err-clause-ends
returns-in-Err-clause-ends g c = λ script. unready (memory (inl refl) (inl refl) (λ _. refl) refl (writes_nothing _))
