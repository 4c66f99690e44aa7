use Rattle.std.proofs.Common.{◌≡◌, ℕ, ◌<◌, true, get_or}
use Rattle.cxl_topo.specs.Tree.{is_endpoint_at}
use Rattle.cxl_model.specs.Hosts.{as_system}
use Rattle.cxl_legal.specs.Endpoints.{HasRoom}
use Rattle.cxl_plan.proofs.room.first_refused.Given as goal

abbrev pub invariant-loop-node : goal.invariant-loop-node
invariant-loop-node l = (k : ℕ) → k < l.node-index → is_endpoint_at l.host.topo.now.nodes (get_or l.node-items k 0) ≡ true → HasRoom (as_system l.host) l.request (get_or l.node-items k 0)
