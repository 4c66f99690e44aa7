use Rattle.std.proofs.Common.{◌-◌, ◌≤◌, length, IfOk, arith, rules}
use Rattle.cxl_pipe.proofs.Lines.{more_comes}
use Rattle.cxl_pipe.proofs.pipes.read_behind.Goals as goal

pub returns-clause-given : goal.returns-clause-given
returns-clause-given g c =
    let few : IfOk c.read.result (λ n. n ≤ length c.read.new.into) = search rules in
    more_comes c.read.result c.args.at (4097 - c.args.at) c.args.line.now c.read.new.into (g.S.Source.state c.args.from.now) (g.S.Source.state c.read.new.self) (omega (arith, c.requires.here, c.requires.room)) few c.read.ensures.given
