use Rattle.std.proofs.Common.{◌≡◌, ◌&&◌, None}
use Rattle.std.specs.Prelude.{find}
use Rattle.std.specs.List.{range_with_len}
use Rattle.cxl_topo.specs.Tree.{is_endpoint_at}
use Rattle.cxl_model.specs.Hosts.{as_system}
use Rattle.cxl_model.specs.Ranges.{serves}
use Rattle.cxl_cause.proofs.lookups.first_endpoint.Given as goal

abbrev pub invariant-loop-node : goal.invariant-loop-node
invariant-loop-node l = find (λ n. is_endpoint_at (as_system l.host).nodes n && serves (as_system l.host) l.range n) (range_with_len 0 l.node) ≡ None
