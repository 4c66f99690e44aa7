use Rattle.std.proofs.Common.{◌≡◌, ◌∙◌, List, true, sym, ap, subst}
use Rattle.std.specs.Prelude.{All}
use Rattle.cxl_topo.specs.Tree.{is_endpoint_at}
use Rattle.cxl_topo.specs.declared.node.Node.{Node}
use Rattle.cxl_request.specs.Endpoints.{endpoints_named}
use Rattle.cxl_request.proofs.EndpointNames.{are_endpoints}
use Rattle.cxl_request.proofs.requests.plan_by_name.Goals as goal

pub plan_over-requires-clause-named : goal.plan_over-requires-clause-named
plan_over-requires-clause-named c =
    let nodes : List Node = c.args.host.now.topo.now.nodes in
    subst (All (λ m. is_endpoint_at nodes m ≡ true)) (sym (c.in_ok-endpoints.ensures.endpoints ∙ ap (endpoints_named nodes) c.items-names.ensures))
    (are_endpoints nodes c.args.create.now.endpoints)
