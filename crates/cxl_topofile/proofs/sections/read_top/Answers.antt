use Rattle.std.proofs.Common.{subst}
use Rattle.std.proofs.lemmas.Result.{err_from_is_err_and}
use Rattle.toml.specs.Data.{Members}
use Rattle.toml.specs.View.{table_view}
use Rattle.cxl_topofile.specs.Values.{Gives}
use Rattle.cxl_topofile.specs.Groups.{top_of}
use Rattle.cxl_topofile.specs.inner.Seen.{seen_top}
use Rattle.cxl_topofile.proofs.Steps.{unknown_top}
use Rattle.cxl_topofile.proofs.sections.read_top.Goals as goal

pub returns-in_err-fields-clause-top : goal.returns-in_err-fields-clause-top
returns-in_err-fields-clause-top c =
    let p = err_from_is_err_and c.from_residual.result c.from_residual.ensures.1 in
    rw (p.1, p.2) (unknown_top (table_view c.args.table.now) c.in_err-fields.field-0.0 c.in_err-fields.ensures.fault)

pub top_from-requires-clause-fields : goal.top_from-requires-clause-fields
top_from-requires-clause-fields c = c.in_ok-fields.ensures.all.each

pub top_from-requires-clause-known : goal.top_from-requires-clause-known
top_from-requires-clause-known c = c.in_ok-fields.ensures.all.known

pub returns-clause-top : goal.returns-clause-top
returns-clause-top c = subst (λ (m : Members). Gives seen_top c.top_from.result (top_of m)) c.in_ok-fields.ensures.all.same c.top_from.ensures.top
