use Rattle.std.proofs.lemmas.Result.{err_from_is_err_and}
use Rattle.cxl_topofile.specs.Values.{is_within}
use Rattle.cxl_topofile.specs.inner.Fields.{members_of}
use Rattle.cxl_topofile.proofs.Steps.{number_fails, number_tested}
use Rattle.cxl_topofile.proofs.value.number.Goals as goal

pub returns-in_err-n-clause-number : goal.returns-in_err-n-clause-number
returns-in_err-n-clause-number c =
    let p = err_from_is_err_and c.from_residual.result c.from_residual.ensures.1 in
    rw (p.1, p.2) (number_fails (members_of c.args.fields.now) c.args.key c.args.default (is_within c.args.low c.args.high) c.in_err-n.field-0.0 c.in_err-n.ensures)

pub returns-clause-number : goal.returns-clause-number
returns-clause-number c = number_tested (members_of c.args.fields.now) c.args.key c.args.default (is_within c.args.low c.args.high) c.in_ok-n.n c.within.result c.in_ok-n.ensures c.within.ensures.within
