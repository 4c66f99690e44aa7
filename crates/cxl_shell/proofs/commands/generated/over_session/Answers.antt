use Rattle.std.proofs.Common.{refl, subst, take}
use Rattle.cxl_inputs.specs.Ends.{Ends}
use Rattle.cxl_inputs.proofs.Stops.{writes_nothing}
use Rattle.cxl_shell.specs.Endings.{told, runs_out}
use Rattle.cxl_shell.specs.commands.Gen.{made_asked}
use Rattle.cxl_shell.proofs.commands.generated.over_session.Goals as goal

pub returns-in-Ok-clause-ends : goal.returns-in-Ok-clause-ends
returns-in-Ok-clause-ends g c = λ m at.
    let all = c.in-Ok.ensures.all m at in
    let old = g.K.Sink.state c.args.out.now in
    let new = g.K.Sink.state c.finish.new.out in
    (made_asked c.args.n, all.0, all.1, told all.2 refl all.3 (subst (λ o. Ends o c.finish.result old new) all.4 c.finish.ensures.finishes))

pub returns-in-Err-clause-ends : goal.returns-in-Err-clause-ends
returns-in-Err-clause-ends g c = λ m at.
    let some = c.in-Err.ensures.some m at in
    (take some.0 (made_asked c.args.n), some.1, some.2, runs_out some.0 refl refl (writes_nothing _))
