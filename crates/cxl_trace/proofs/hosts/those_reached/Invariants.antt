use Rattle.cxl_model.specs.Hosts.{as_system}
use Rattle.cxl_trace.specs.inner.Candidates.{AreReached}
use Rattle.cxl_trace.proofs.hosts.those_reached.Given as goal

abbrev pub invariant-loop-k : goal.invariant-loop-k
invariant-loop-k l = AreReached (as_system l.host) l.ep l.dpa l.first l.apart l.k l.hosts.items
