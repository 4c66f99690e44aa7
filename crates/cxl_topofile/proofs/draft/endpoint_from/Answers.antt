use Rattle.std.proofs.Common.{Err, sym}
use Rattle.std.proofs.lemmas.Result.{err_from_is_err_and}
use Rattle.cxl_topofile.specs.inner.Fields.{members_of}
use Rattle.cxl_topofile.proofs.Steps.{endpoint_fails, endpoint_behind}
use Rattle.cxl_topofile.proofs.draft.endpoint_from.Goals as goal

pub returns-in_err-seat : goal.returns-in_err-seat
returns-in_err-seat c =
    let p = err_from_is_err_and c.from_residual.result c.from_residual.ensures.1 in
    rw (p.1, p.2) (endpoint_fails (members_of c.args.fields.now) c.in_err-seat.field-0.0 c.requires.known c.in_err-seat.ensures)

pub returns-in_err-cap : goal.returns-in_err-cap
returns-in_err-cap c =
    let p = err_from_is_err_and c.from_residual-in_err-cap.result c.from_residual-in_err-cap.ensures.1 in
    rw (p.1, p.2) (endpoint_behind (members_of c.args.fields.now) c.in_ok-seat.seat (Err c.in_err-cap.field-0.0) c.requires.known c.in_ok-seat.ensures (rw (sym c.in_err-cap.ensures)))

pub returns-in_err-capacity : goal.returns-in_err-capacity
returns-in_err-capacity c =
    let p = err_from_is_err_and c.from_residual-in_err-capacity.result c.from_residual-in_err-capacity.ensures.1 in
    rw (p.1, p.2) (endpoint_behind (members_of c.args.fields.now) c.in_ok-seat.seat (Err c.in_err-capacity.field-0.0) c.requires.known c.in_ok-seat.ensures (rw (sym c.in_ok-cap.ensures, sym c.in_err-capacity.ensures)))

pub returns : goal.returns
returns c = endpoint_behind (members_of c.args.fields.now) c.in_ok-seat.seat _ c.requires.known c.in_ok-seat.ensures (rw (sym c.in_ok-cap.ensures, sym c.in_ok-capacity.ensures))
