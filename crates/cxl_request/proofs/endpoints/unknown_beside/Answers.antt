use Rattle.std.proofs.Common.{length, ap, arith}
use Rattle.cxl_request.proofs.EndpointNames.{none_unknown}
use Rattle.cxl_request.proofs.endpoints.unknown_beside.Goals as goal

pub returns-then-endpoints-names : goal.returns-then-endpoints-names
returns-then-endpoints-names c =
    let named = ap length c.requires in
    none_unknown c.args.topo.now.nodes c.args.names.now (omega (arith, named, c.if-endpoints-names.true))
