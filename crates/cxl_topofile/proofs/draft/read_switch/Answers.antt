use Rattle.std.proofs.Common.{ap, ◌∙◌}
use Rattle.std.proofs.lemmas.Result.{err_from_is_err_and}
use Rattle.toml.specs.View.{table_view}
use Rattle.cxl_topofile.specs.Drafts.{switch_of}
use Rattle.cxl_topofile.proofs.Steps.{unknown_switch}
use Rattle.cxl_topofile.proofs.draft.read_switch.Goals as goal

pub returns-in_err-fields : goal.returns-in_err-fields
returns-in_err-fields c =
    let p = err_from_is_err_and c.from_residual.result c.from_residual.ensures.1 in
    rw (p.1, p.2) (unknown_switch (table_view c.args.table.now) c.in_err-fields.field-0.0 c.in_err-fields.ensures.fault)

pub switch_from-requires-clause-fields : goal.switch_from-requires-clause-fields
switch_from-requires-clause-fields c = c.in_ok-fields.ensures.all.each

pub switch_from-requires-clause-known : goal.switch_from-requires-clause-known
switch_from-requires-clause-known c = c.in_ok-fields.ensures.all.known

pub returns : goal.returns
returns c = c.switch_from.ensures ∙ ap switch_of c.in_ok-fields.ensures.all.same
