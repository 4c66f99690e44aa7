use Rattle.cxl_model.specs.Hosts.{as_system}
use Rattle.cxl_check.specs.inner.Firsts.{ListsFirsts}
use Rattle.cxl_check.proofs.firsts.first_endpoints.Given as goal

abbrev pub invariant-loop-node : goal.invariant-loop-node
invariant-loop-node l = ListsFirsts (as_system l.host) l.node l.firsts
