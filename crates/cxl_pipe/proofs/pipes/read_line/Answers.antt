use Rattle.std.proofs.Common.{◌≡◌, ◌+◌, ◌≤◌, length, sym, ◌∙◌, arith}
use Rattle.cxl_pipe.proofs.Lines.{comes_ended, comes_on, by_alone, by_behind}
use Rattle.cxl_pipe.proofs.pipes.read_line.Goals as goal

pub returns-then-more-eq0-clause-astray : goal.returns-then-more-eq0-clause-astray
returns-then-more-eq0-clause-astray g c =
    let none : c.in-Ok.more ≡ 0 = omega (arith, c.if-more-eq0.true) in
    comes_ended c.turns.at c.in-Ok.more c.turns.line c.read_behind.new.line _ _ _ c.turns.invariant.0 c.in-Ok.ensures.given c.in-Ok.ensures.front none (c.in-Ok.ensures.end none)

pub returns-in-Some-clause-alone : goal.returns-in-Some-clause-alone
returns-in-Some-clause-alone g c =
    let given = c.in-Ok.ensures.given (g.S.Source.state c.args.from.now) c.turns.invariant.0.given in
    let within : c.turns.at + c.in-Ok.more ≤ length c.read_behind.new.line = omega (arith, c.in-Ok.ensures.within, c.read_behind.auto.line, c.turns.invariant.2) in
    by_alone (c.turns.at + c.in-Ok.more) c.in-Some.n c.read_behind.new.line _ _ given (sym c.line_end.ensures ∙ c.in-Some.is) within c.in-Ok.ensures.within c.ended.result c.ended.ensures.alone

pub returns-in-Some-clause-astray : goal.returns-in-Some-clause-astray
returns-in-Some-clause-astray g c =
    let given = c.in-Ok.ensures.given (g.S.Source.state c.args.from.now) c.turns.invariant.0.given in
    let within : c.turns.at + c.in-Ok.more ≤ length c.read_behind.new.line = omega (arith, c.in-Ok.ensures.within, c.read_behind.auto.line, c.turns.invariant.2) in
    by_behind (c.turns.at + c.in-Ok.more) c.in-Some.n c.read_behind.new.line _ _ given (sym c.line_end.ensures ∙ c.in-Some.is) within c.in-Ok.ensures.within c.ended.result c.ended.ensures.behind

pub turns-preserved : goal.turns-preserved
turns-preserved g c = (
  comes_on c.turns.at c.in-Ok.more c.turns.line c.read_behind.new.line _ _ _ c.turns.invariant.0 c.in-Ok.ensures.given c.in-Ok.ensures.counts (sym c.line_end.ensures ∙ c.in_default-line_end.is),
  c.in-Ok.ensures.within,
  omega (arith, c.read_behind.auto.line, c.turns.invariant.2),
)
