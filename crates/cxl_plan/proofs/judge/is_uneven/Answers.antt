use Rattle.std.proofs.Common.{◌≡◌, true, sym, refl, ◌∙◌}
use Rattle.cxl_topo.specs.Tree.{is_bridge_at, is_port_at}
use Rattle.cxl_topo.proofs.Trees.{inside_port}
use Rattle.cxl_legal.specs.Endpoints.{cap_at}
use Rattle.cxl_plan.specs.inner.Uses.{tree_alone}
use Rattle.cxl_plan.proofs.UnevenNodes.{uneven_endpoint, uneven_tested, even_tested, same_tested, share_tested}
use Rattle.cxl_plan.proofs.judge.is_uneven.Goals as goal

pub returns-then-is_endpoint : goal.returns-then-is_endpoint
returns-then-is_endpoint c = sym (uneven_endpoint c.args.topo.now.nodes c.args.request.now c.args.node (sym c.is_endpoint.ensures ∙ c.if-is_endpoint.true))

pub returns : goal.returns
returns c =
    let nodes = c.args.topo.now.nodes in
    let request = c.args.request.now in
    let node = c.args.node in
    let ports = c.ports_of-ports.result.now in
    let port : is_port_at nodes node ≡ true = inside_port nodes node c.requires.here (sym c.is_endpoint.ensures ∙ c.if-is_endpoint.false) in
    let cap : c.node-own.result.now.cap ≡ cap_at (tree_alone nodes) node = sym (rw c.node-own.ensures refl) in
    let bridge : c.is_bridge.result ≡ is_bridge_at nodes node = c.is_bridge.ensures ∙ sym (rw c.node-own.ensures refl) in
    c.lacks_any.ensures
    ∙ uneven_tested nodes request node c.requires.used true c.has_even_ports-even.result c.are_same-same.result c.has_share-shared.result (sym port)
    (c.has_even_ports-even.ensures ∙ even_tested nodes request node ports c.node-own.result.now.cap c.ports_of-ports.ensures cap)
    (c.are_same-same.ensures ∙ same_tested nodes request node ports c.counts_at_ports-at.result c.ports_of-ports.ensures c.counts_at_ports-at.ensures)
    (c.has_share-shared.ensures ∙ share_tested nodes request node c.is_bridge.result c.count_of-count.result c.args.share bridge c.count_of-count.ensures c.requires.share)
