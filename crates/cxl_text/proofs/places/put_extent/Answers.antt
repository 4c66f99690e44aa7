use Rattle.std.proofs.Common.{◌<◌, length}
use Rattle.std.proofs.lemmas.List.Elements.{All-get_or}
use Rattle.cxl_text.proofs.places.put_extent.Goals as goal

pub put_node-requires-clause-node : goal.put_node-requires-clause-node
put_node-requires-clause-node c =
    All-get_or (λ n. n < length c.args.topo.now.nodes) c.args.endpoints.now c.args.extent.now.slot 0 c.requires.slot c.requires.endpoints
