use Rattle.std.proofs.Common.{ap, ◌∙◌, rules}
use Rattle.cxl_topofile.specs.Drafts.{bridge_of}
use Rattle.cxl_topofile.proofs.Steps.{unknown_bridge}
use Rattle.cxl_topofile.proofs.draft.read_bridge.Goals as goal

pub returns-in_err-fields : goal.returns-in_err-fields
returns-in_err-fields c = search (rules, unknown_bridge)

pub bridge_from-requires-clause-fields : goal.bridge_from-requires-clause-fields
bridge_from-requires-clause-fields c = c.in_ok-fields.ensures.all.each

pub bridge_from-requires-clause-known : goal.bridge_from-requires-clause-known
bridge_from-requires-clause-known c = c.in_ok-fields.ensures.all.known

pub returns : goal.returns
returns c = c.bridge_from.ensures ∙ ap bridge_of c.in_ok-fields.ensures.all.same
