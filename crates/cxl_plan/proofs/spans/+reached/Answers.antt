use Rattle.cxl_plan.proofs.StatedSpans.{reach_end, reach_past}
use Rattle.std.proofs.Common.{◌≡◌, ℕ, ◌*◌, Some, true, sym, ap, subst, refl, ◌∙◌, arith}
use Rattle.std.specs.Prelude.{IsSome}
use Rattle.std.proofs.lemmas.Option.{same_Some}
use Rattle.cxl_topo.specs.declared.node.Parent.{Parent}
use Rattle.cxl_topo.specs.Tree.{parent_of}
use Rattle.cxl_topo.proofs.Trees.{KnownTree}
use Rattle.cxl_legal.specs.Used.{is_used}
use Rattle.cxl_plan.specs.inner.Uses.{tree_alone, ways_at, ways_above_at}
use Rattle.cxl_plan.proofs.PlannedWays.{ways_step, ways_few, ways_some}
use Rattle.cxl_plan.proofs.Leading.{used_child}
use Rattle.cxl_plan.proofs.spans.+reached.Goals as goal

pub unwrap-child-requires : goal.unwrap-child-requires
unwrap-child-requires t c =
    let nodes = c.args.topo.now.nodes in
    let tree : KnownTree nodes = record { tree = c.count-count.ensures.tree; laws = c.tree_laws.ensures.laws nodes c.count-count.ensures.tree } in
    let child = used_child nodes tree c.args.request.now c.args.node c.port_of-port.result c.port_of-port.ensures.used in
    subst (λ o. IsSome o) (sym (c.child.ensures.child ∙ child.1.is)) refl

pub reached-requires : goal.reached-requires
reached-requires t c =
    let nodes = c.args.topo.now.nodes in
    let request = c.args.request.now in
    let tree : KnownTree nodes = record { tree = c.count-count.ensures.tree; laws = c.tree_laws.ensures.laws nodes c.count-count.ensures.tree } in
    let child = used_child nodes tree request c.args.node c.port_of-port.result c.port_of-port.ensures.used in
    let same : child.0 ≡ c.unwrap-child.result = same_Some child.0 c.unwrap-child.result (sym child.1.is ∙ sym c.child.ensures.child ∙ c.unwrap-child.ensures) in
    let inside = child.1.inside in
    let later = child.1.later in
    let own : Parent = record { node = c.args.node; port = c.port_of-port.result } in
    let up : parent_of nodes c.unwrap-child.result ≡ Some own = (tree.laws.children c.args.node c.port_of-port.result c.unwrap-child.result).0 (sym c.child.ensures.child ∙ c.unwrap-child.ensures) in
    let used : is_used (tree_alone nodes) request c.unwrap-child.result ≡ true = subst (λ (n : ℕ). is_used (tree_alone nodes) request n ≡ true) same child.1.used in
    let above : c.from.result * c.args.above ≡ ways_above_at nodes request c.unwrap-child.result =
    ap (λ (n : ℕ). n * c.args.above) (c.from.ensures ∙ c.planned_ways-ways.ensures.value) ∙ ap (λ (n : ℕ). ways_at nodes request c.args.node * n) c.requires.above ∙ sym (ways_step nodes request tree c.unwrap-child.result own up) in
    let few = ways_few nodes request tree c.requires.ways c.unwrap-child.result used in
    let some = ways_some nodes request tree c.requires.ways c.unwrap-child.result used in
    (omega (arith, c.decreases), (c.requires.uses, (c.requires.ways, (omega arith, (used, (above, (omega (arith, above, some), omega (arith, above, few))))))))

pub returns-then-is_endpoint-clause-reaches : goal.returns-then-is_endpoint-clause-reaches
returns-then-is_endpoint-clause-reaches t c = reach_end c.args.topo.now.nodes c.args.request.now c.args.w.now c.args.slot c.args.node (sym c.is_endpoint.ensures ∙ c.if-is_endpoint.true)

pub returns-clause-reaches : goal.returns-clause-reaches
returns-clause-reaches t c =
    reach_past c.args.topo.now.nodes c.args.request.now c.args.w.now c.args.slot c.args.node c.port_of-port.result c.unwrap-child.result c.reached.result c.requires.here (sym c.is_endpoint.ensures ∙ c.if-is_endpoint.false) c.port_of-port.ensures.port
    (sym c.child.ensures.child ∙ c.unwrap-child.ensures) c.reached.ensures.reaches
