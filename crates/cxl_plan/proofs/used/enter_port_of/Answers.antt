use Rattle.std.proofs.lemmas.Bool.{eq-eqb, ne_eqb}
use Rattle.cxl_plan.proofs.used.enter_port_of.Goals as goal

pub returns-then-parent-node : goal.returns-then-parent-node
returns-then-parent-node c = rw (ne_eqb c.args.parent.now.node c.args.node c.if-parent-node.true) (λ p limit le old. old)

pub returns : goal.returns
returns c = rw (eq-eqb c.args.parent.now.node c.args.node c.if-parent-node.false) c.add_port.ensures
