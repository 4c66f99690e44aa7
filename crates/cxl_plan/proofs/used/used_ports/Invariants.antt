use Rattle.std.proofs.Common.{◌≡◌, ℕ, length, get_or}
use Rattle.std.specs.Prelude.{Vec, slice_get, Some}
use Rattle.std.specs.Global.{Global}
use Rattle.cxl_model.specs.declared.request.Request.{Request}
use Rattle.cxl_plan.specs.inner.Uses.{ports_at, used_nodes}
use Rattle.cxl_plan.proofs.used.used_ports.Given as goal

abbrev pub invariant-loop-node : goal.invariant-loop-node
invariant-loop-node l =
    (length l.ports.items ≡ l.node-index)
    × ((request : Request) → l.nodes ≡ used_nodes l.topo.nodes request → (k : ℕ) (own : Vec ℕ Global) → slice_get l.ports.items k ≡ Some own → own.items ≡ ports_at l.topo.nodes request (get_or l.nodes k 0))
