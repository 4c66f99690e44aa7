use Rattle.std.proofs.Common.{rules}
use Rattle.std.proofs.lemmas.Result.{err_from_is_err_and}
use Rattle.cxl_topofile.specs.inner.Fields.{members_of}
use Rattle.cxl_topofile.proofs.Steps.{port_caps_fail, flag_fails, port_caps_stated}
use Rattle.cxl_topofile.proofs.draft.read_port_caps.Goals as goal

pub returns-in_err-caps : goal.returns-in_err-caps
returns-in_err-caps c =
    let p = err_from_is_err_and c.from_residual.result c.from_residual.ensures.1 in
    rw (p.1, p.2) (port_caps_fail (members_of c.args.fields.now) c.in_err-caps.field-0.0 c.in_err-caps.ensures.caps)

pub returns-in_err-forwards : goal.returns-in_err-forwards
returns-in_err-forwards c = search (rules, flag_fails (members_of c.args.fields.now) c.in_ok-caps.caps c.in_err-forwards.field-0.0 c.in_ok-caps.ensures.caps)

pub returns : goal.returns
returns c = search (rules, port_caps_stated (members_of c.args.fields.now) c.in_ok-caps.caps c.in_ok-forwards.forwards c.port_caps.result c.in_ok-caps.ensures.caps)
