use Rattle.std.proofs.Common.{◌≡◌, ℕ, ◌≤◌, List, length, get_or, false, ap, refl, ◌∙◌, arith, if◌then◌else◌}
use Rattle.std.specs.Option.{option_map_or}
use Rattle.std.proofs.lemmas.List.{take_all}
use Rattle.cxl_topo.specs.Tree.{parent_of}
use Rattle.cxl_legal.specs.Used.{count_under}
use Rattle.cxl_plan.specs.inner.Uses.{tree_alone}
use Rattle.cxl_plan.specs.inner.AtPorts.{entered_at}
use Rattle.cxl_plan.proofs.UsedItems.{item_inside}
use Rattle.cxl_plan.proofs.Tables.{none_entered, entered_more, entered_all, parent_at}
use Rattle.cxl_plan.proofs.used.counts_at_ports.Goals as goal

pub enter_count-requires : goal.enter_count-requires
enter_count-requires c = item_inside c.args.topo.now.nodes c.args.request.now c.as_slice-nodes.result.now (c.as_slice-nodes.ensures.value ∙ c.requires.listed) c.loop-place.place (omega arith)

pub loop-place-init : goal.loop-place-init
loop-place-init c port below = none_entered c.args.topo.now.nodes c.args.request.now c.args.node port _ refl

pub loop-place-preserved : goal.loop-place-preserved
loop-place-preserved c port below =
    let nodes = c.args.topo.now.nodes in
    let request = c.args.request.now in
    let items : List ℕ = c.args.uses.now.nodes.items in
    let i : ℕ = c.loop-place.place in
    let long = ap length c.as_slice-nodes.ensures.value in
    let read : get_or c.as_slice-nodes.result.now i 0 ≡ get_or items i 0 = ap (λ (xs : List ℕ). get_or xs i 0) c.as_slice-nodes.ensures.value in
    let count : get_or c.as_slice-counts.result.now i 0 ≡ count_under (tree_alone nodes) request (get_or items i 0) =
    ap (λ (xs : List ℕ). get_or xs i 0) c.as_slice-counts.ensures.value ∙ c.requires.counts.each i (omega (arith, long)) in
    entered_more nodes (c.tree_laws.ensures.laws nodes c.count-count.ensures.tree) request items i c.args.node port (get_or c.loop-place.at port 0) _ (omega (arith, long)) (c.loop-place.invariant port below)
    (c.enter_count.ensures port below
    ∙ ap (λ (m : ℕ). if option_map_or (parent_at c.args.node port) (parent_of nodes m) false then get_or c.as_slice-counts.result.now i 0 else get_or c.loop-place.at port 0) read
    ∙ ap (λ (m : ℕ). if option_map_or (parent_at c.args.node port) (parent_of nodes (get_or items i 0)) false then m else get_or c.loop-place.at port 0) count)

pub returns : goal.returns
returns c port below =
    let nodes = c.args.topo.now.nodes in
    let request = c.args.request.now in
    let items : List ℕ = c.args.uses.now.nodes.items in
    let long = ap length c.as_slice-nodes.ensures.value in
    let past : length items ≤ c.loop-place.place = omega (arith, long) in
    c.loop-place.invariant port below
    ∙ ap (λ (xs : List ℕ). entered_at nodes request xs c.args.node port) (take_all c.loop-place.place items past ∙ c.requires.listed)
    ∙ entered_all nodes (c.tree_laws.ensures.laws nodes c.count-count.ensures.tree) request c.args.node port
