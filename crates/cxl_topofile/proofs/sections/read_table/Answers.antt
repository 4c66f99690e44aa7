use Rattle.std.proofs.lemmas.Result.{err_from_is_err_and}
use Rattle.toml.specs.View.{table_view}
use Rattle.cxl_topofile.specs.inner.Seen.{seen_top}
use Rattle.cxl_topofile.proofs.Steps.{drafts_fail, stated_is}
use Rattle.cxl_topofile.proofs.sections.read_table.Goals as goal

pub returns-in_err-drafts-clause-stated : goal.returns-in_err-drafts-clause-stated
returns-in_err-drafts-clause-stated c =
    let p = err_from_is_err_and c.from_residual-in_err-drafts.result c.from_residual-in_err-drafts.ensures.1 in
    rw (p.1, p.2) (drafts_fail (table_view c.args.table.now) (seen_top c.in-Ok.top) c.in_ok-bridges.bridges.items c.in-Ok.ensures.top c.in_ok-bridges.ensures c.in_err-drafts.field-0.0 c.in_err-drafts.ensures)

pub returns-clause-stated : goal.returns-clause-stated
returns-clause-stated c = stated_is (table_view c.args.table.now) (seen_top c.in-Ok.top) c.in_ok-bridges.bridges.items c.in-Ok.ensures.top c.in_ok-bridges.ensures c.in_ok-drafts.drafts.items c.in_ok-drafts.ensures
