use Rattle.std.proofs.Common.{rules}
use Rattle.std.proofs.lemmas.Result.{err_from_is_err_and}
use Rattle.toml.specs.View.{items_view}
use Rattle.cxl_topofile.proofs.Steps.{switches_fail, endpoints_fail, drafts_are}
use Rattle.cxl_topofile.proofs.sections.read_groups.Goals as goal

pub returns-in_err-drafts : goal.returns-in_err-drafts
returns-in_err-drafts c =
    let p = err_from_is_err_and c.from_residual.result c.from_residual.ensures.1 in
    rw (p.1, p.2) (switches_fail (items_view c.args.switches.now) (items_view c.args.endpoints.now) c.in_err-drafts.field-0.0 c.in_err-drafts.ensures)

pub returns-in_err-last : goal.returns-in_err-last
returns-in_err-last c =
    let p = err_from_is_err_and c.from_residual-in_err-last.result c.from_residual-in_err-last.ensures.1 in
    rw (p.1, p.2) (endpoints_fail (items_view c.args.switches.now) (items_view c.args.endpoints.now) c.in_ok-drafts.drafts.items c.in_err-last.field-0.0 c.in_ok-drafts.ensures c.in_err-last.ensures)

pub returns : goal.returns
returns c = rw (drafts_are (items_view c.args.switches.now) (items_view c.args.endpoints.now) c.in_ok-drafts.drafts.items c.in_ok-last.last.items c.in_ok-drafts.ensures c.in_ok-last.ensures) (search rules)
