use Rattle.std.proofs.Common.{take, subst, IfErr}
use Rattle.cxl_pipe.specs.Talk.{Talk, IsAstray}
use Rattle.cxl_pipe.proofs.Lines.{sent_astray}
use Rattle.cxl_pipe.proofs.pipes.PipesPeer.ask.Goals as goal

pub returns-clause-astray : goal.returns-clause-astray
returns-clause-astray g c =
    let new : Talk = record { to = g.K.Sink.state c.write_all.new.sink; from = g.S.Source.state c.read_line.new.from } in
    subst (λ (old : Talk). IfErr c.read_line.result (λ it. IsAstray c.args.question.now (take it.came c.read_line.new.line) it.how old new)) c.self.view_is
    (sent_astray c.read_line.result c.args.question.now c.read_line.new.line _ new c.in-Ok.ensures.ok c.read_line.ensures.astray)
