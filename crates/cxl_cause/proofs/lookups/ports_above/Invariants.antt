use Rattle.cxl_model.specs.Hosts.{as_system}
use Rattle.cxl_cause.proofs.Above.{ArePassed}
use Rattle.cxl_cause.proofs.lookups.ports_above.Given as goal

abbrev pub invariant-loop-parent : goal.invariant-loop-parent
invariant-loop-parent l = ArePassed (as_system l.host) l.range l.node l.below l.ways l.bits

abbrev pub decreases-loop-parent : goal.decreases-loop-parent
decreases-loop-parent l = l.below
