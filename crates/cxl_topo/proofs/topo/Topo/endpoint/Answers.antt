use Rattle.std.proofs.Common.{sym, ◌∙◌}
use Rattle.cxl_topo.proofs.EndpointNames.{endpoint_none, endpoint_other, endpoint_is}
use Rattle.cxl_topo.proofs.topo.Topo.endpoint.Goals as goal

pub returns-in_err-node-clause-endpoint : goal.returns-in_err-node-clause-endpoint
returns-in_err-node-clause-endpoint c =
    c.from_residual.ensures ∙ endpoint_none c.args.self.now.nodes c.args.name.now c.find.result c.find.ensures.named c.in_err-node.was

pub returns-then-is_endpoint-clause-endpoint : goal.returns-then-is_endpoint-clause-endpoint
returns-then-is_endpoint-clause-endpoint c =
    endpoint_is c.args.self.now.nodes c.args.name.now c.find.result c.find.ensures.named c.in_ok-node.node c.in_ok-node.was (sym c.is_endpoint.ensures ∙ c.if-is_endpoint.true)

pub returns-else-is_endpoint-clause-endpoint : goal.returns-else-is_endpoint-clause-endpoint
returns-else-is_endpoint-clause-endpoint c =
    endpoint_other c.args.self.now.nodes c.args.name.now c.find.result c.find.ensures.named c.in_ok-node.node c.in_ok-node.was (sym c.is_endpoint.ensures ∙ c.if-is_endpoint.false)
