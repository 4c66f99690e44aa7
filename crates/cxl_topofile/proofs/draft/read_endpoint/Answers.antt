use Rattle.std.proofs.Common.{ap, ◌∙◌}
use Rattle.std.proofs.lemmas.Result.{err_from_is_err_and}
use Rattle.toml.specs.View.{table_view}
use Rattle.cxl_topofile.specs.Drafts.{endpoint_of}
use Rattle.cxl_topofile.proofs.Steps.{unknown_endpoint}
use Rattle.cxl_topofile.proofs.draft.read_endpoint.Goals as goal

pub returns-in_err-fields : goal.returns-in_err-fields
returns-in_err-fields c =
    let p = err_from_is_err_and c.from_residual.result c.from_residual.ensures.1 in
    rw (p.1, p.2) (unknown_endpoint (table_view c.args.table.now) c.in_err-fields.field-0.0 c.in_err-fields.ensures.fault)

pub endpoint_from-requires-clause-fields : goal.endpoint_from-requires-clause-fields
endpoint_from-requires-clause-fields c = c.in_ok-fields.ensures.all.each

pub endpoint_from-requires-clause-known : goal.endpoint_from-requires-clause-known
endpoint_from-requires-clause-known c = c.in_ok-fields.ensures.all.known

pub returns : goal.returns
returns c = c.endpoint_from.ensures ∙ ap endpoint_of c.in_ok-fields.ensures.all.same
