use Rattle.cxl_model.proofs.Breaches.{past_decoders, past_nodes, past_rules}
use Rattle.cxl_model.proofs.laws.breaches_lie_in_images.Goals as goal

pub returns-clause-decoders : goal.returns-clause-decoders
returns-clause-decoders c = past_decoders

pub returns-clause-nodes : goal.returns-clause-nodes
returns-clause-nodes c = past_nodes

pub returns-clause-rules : goal.returns-clause-rules
returns-clause-rules c = past_rules
