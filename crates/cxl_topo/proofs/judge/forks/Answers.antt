use Rattle.std.proofs.Common.{sym, ap, ◌∙◌, arith}
use Rattle.std.specs.Prelude.{is_some}
use Rattle.cxl_topo.proofs.ChildPlaces.{parent_listed}
use Rattle.cxl_topo.proofs.judge.forks.Goals as goal

pub forwards-requires : goal.forwards-requires
forwards-requires c = parent_listed c.args.earlier.now c.args.node.now c.in-Some.parent c.in-Some.is c.requires

pub returns-then-forwards : goal.returns-then-forwards
returns-then-forwards c = λ count listed few.
    let within = parent_listed c.args.earlier.now c.args.node.now c.in-Some.parent c.in-Some.is c.requires in
    let forwards = sym c.forwards.ensures ∙ c.if-forwards.true in
    c.is_some.ensures ∙ rw (c.in-Some.is, forwards) (ap is_some (c.least.ensures.child count c.args.earlier.now listed (omega (arith, within, few))))
