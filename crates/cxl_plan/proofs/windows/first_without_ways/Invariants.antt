use Rattle.std.proofs.Common.{◌≡◌, ℕ, ◌<◌, ◌||◌, not, true, false, get_or}
use Rattle.std.specs.Prelude.{slice_get}
use Rattle.std.specs.Option.{option_map_or}
use Rattle.cxl_enc.specs.Codes.{code_in_table}
use Rattle.cxl_regs.specs.Rules.{endpoint_ways_ok}
use Rattle.cxl_topo.specs.Tree.{is_endpoint_at}
use Rattle.cxl_legal.specs.Used.{request_ways}
use Rattle.cxl_plan.proofs.windows.first_without_ways.Given as goal

abbrev pub invariant-loop-node : goal.invariant-loop-node
invariant-loop-node l =
    (k : ℕ) → k < l.node-index
    → (not (is_endpoint_at l.topo.nodes (get_or l.node-items k 0))
    || option_map_or (endpoint_ways_ok (option_map_or (λ own. own.cap) (slice_get l.topo.nodes (get_or l.node-items k 0)) 0)) (code_in_table (request_ways l.request)) false) ≡ true
