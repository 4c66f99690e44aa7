use Rattle.std.proofs.Common.{ap, ◌∙◌, arith}
use Rattle.std.specs.Prelude.{is_some}
use Rattle.cxl_topo.proofs.ChildPlaces.{parent_listed}
use Rattle.cxl_topo.proofs.judge.has_taken_port.Goals as goal

pub returns-in-Some : goal.returns-in-Some
returns-in-Some c = λ count earlier listed few sound.
    let within = parent_listed earlier c.args.node.now c.in-Some.parent c.in-Some.is sound in
    c.is_some.ensures ∙ rw c.in-Some.is (ap is_some (c.at.ensures count earlier listed (omega (arith, within, few))))
