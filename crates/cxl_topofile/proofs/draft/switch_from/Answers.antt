use Rattle.std.proofs.Common.{Err, sym}
use Rattle.std.proofs.lemmas.Result.{err_from_is_err_and}
use Rattle.cxl_topofile.specs.inner.Fields.{members_of}
use Rattle.cxl_topofile.proofs.Steps.{switch_fails, switch_behind}
use Rattle.cxl_topofile.proofs.draft.switch_from.Goals as goal

pub returns-in_err-seat : goal.returns-in_err-seat
returns-in_err-seat c =
    let p = err_from_is_err_and c.from_residual.result c.from_residual.ensures.1 in
    rw (p.1, p.2) (switch_fails (members_of c.args.fields.now) c.in_err-seat.field-0.0 c.requires.known c.in_err-seat.ensures)

pub returns-in_err-caps : goal.returns-in_err-caps
returns-in_err-caps c =
    let p = err_from_is_err_and c.from_residual-in_err-caps.result c.from_residual-in_err-caps.ensures.1 in
    rw (p.1, p.2) (switch_behind (members_of c.args.fields.now) c.in_ok-seat.seat (Err c.in_err-caps.field-0.0) c.requires.known c.in_ok-seat.ensures (rw (sym c.in_err-caps.ensures)))

pub returns : goal.returns
returns c = switch_behind (members_of c.args.fields.now) c.in_ok-seat.seat _ c.requires.known c.in_ok-seat.ensures (rw (sym c.in_ok-caps.ensures))
