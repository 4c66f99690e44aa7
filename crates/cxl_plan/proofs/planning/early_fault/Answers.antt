use Rattle.std.proofs.Common.{◌≡◌, ℕ, List, true, length, sym, subst, arith}
use Rattle.std.specs.List.{All}
use Rattle.cxl_topo.specs.Tree.{is_endpoint_at}
use Rattle.cxl_plan.proofs.FaultOrder.{different, few_different, endpoints_inside}
use Rattle.cxl_plan.proofs.planning.early_fault.Goals as goal

pub overflow_cast-result : goal.overflow_cast-result
overflow_cast-result c =
    let nodes = c.args.topo.now.nodes in
    let xs : List ℕ = c.items-endpoints.result.now in
    let named : All (λ m. is_endpoint_at nodes m ≡ true) xs = subst (λ (es : List ℕ). All (λ m. is_endpoint_at nodes m ≡ true) es) (sym c.items-endpoints.ensures) c.requires in
    let few = few_different xs (length nodes) (different xs (sym c.in_default.ensures)) (endpoints_inside nodes xs named) in
    let count = c.count-count.ensures.count in
    let wide = c.count-count.type_inv in
    omega arith
