use Rattle.std.proofs.Common.{◌≡◌, ℕ, ◌≤◌, true, length, sym, ap, subst, ◌∙◌, arith}
use Rattle.cxl_enc.specs.Codes.{is_ways}
use Rattle.cxl_plan.specs.inner.Uses.{ways_at}
use Rattle.cxl_plan.proofs.PlannedWays.{endpoint_ways, port_ways, few_ways}
use Rattle.cxl_plan.proofs.ways.planned_ways.Goals as goal

pub overflow_cast-result : goal.overflow_cast-result
overflow_cast-result c =
    let value : ways_at c.args.topo.now.nodes c.args.request.now c.args.node ≡ length c.items.result.now = endpoint_ways c.args.topo.now.nodes c.args.request.now c.args.node (sym c.is_endpoint.ensures ∙ c.if-is_endpoint.true) ∙ ap length (sym c.items.ensures) in
    let few : ways_at c.args.topo.now.nodes c.args.request.now c.args.node ≤ 16 = few_ways (ways_at c.args.topo.now.nodes c.args.request.now c.args.node) (c.requires.ways c.args.node c.requires.used) in
    omega arith

pub returns-then-is_endpoint-clause-value : goal.returns-then-is_endpoint-clause-value
returns-then-is_endpoint-clause-value c =
    ap length c.items.ensures ∙ sym (endpoint_ways c.args.topo.now.nodes c.args.request.now c.args.node (sym c.is_endpoint.ensures ∙ c.if-is_endpoint.true))

pub returns-then-is_endpoint-clause-known : goal.returns-then-is_endpoint-clause-known
returns-then-is_endpoint-clause-known c =
    let value : ways_at c.args.topo.now.nodes c.args.request.now c.args.node ≡ length c.items.result.now = endpoint_ways c.args.topo.now.nodes c.args.request.now c.args.node (sym c.is_endpoint.ensures ∙ c.if-is_endpoint.true) ∙ ap length (sym c.items.ensures) in
    subst (λ (n : ℕ). is_ways n ≡ true) value (c.requires.ways c.args.node c.requires.used)

pub overflow_cast-result-else-is_endpoint : goal.overflow_cast-result-else-is_endpoint
overflow_cast-result-else-is_endpoint c =
    let nodes = c.args.topo.now.nodes in
    let value : length c.ports_of.result.now ≡ ways_at nodes c.args.request.now c.args.node = ap length c.ports_of.ensures ∙ sym (port_ways nodes c.args.request.now c.args.node (sym c.is_endpoint.ensures ∙ c.if-is_endpoint.false)) in
    let few : ways_at nodes c.args.request.now c.args.node ≤ 16 = few_ways (ways_at nodes c.args.request.now c.args.node) (c.requires.ways c.args.node c.requires.used) in
    omega arith

pub returns-else-is_endpoint-clause-value : goal.returns-else-is_endpoint-clause-value
returns-else-is_endpoint-clause-value c =
    ap length c.ports_of.ensures ∙ sym (port_ways c.args.topo.now.nodes c.args.request.now c.args.node (sym c.is_endpoint.ensures ∙ c.if-is_endpoint.false))

pub returns-else-is_endpoint-clause-known : goal.returns-else-is_endpoint-clause-known
returns-else-is_endpoint-clause-known c =
    let nodes = c.args.topo.now.nodes in
    let value : length c.ports_of.result.now ≡ ways_at nodes c.args.request.now c.args.node = ap length c.ports_of.ensures ∙ sym (port_ways nodes c.args.request.now c.args.node (sym c.is_endpoint.ensures ∙ c.if-is_endpoint.false)) in
    subst (λ (n : ℕ). is_ways n ≡ true) (sym value) (c.requires.ways c.args.node c.requires.used)
