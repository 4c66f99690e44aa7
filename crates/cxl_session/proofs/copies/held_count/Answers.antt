use Rattle.std.proofs.Common.{arith}
use Rattle.cxl_opening.proofs.Errors.{not_ok}
use Rattle.cxl_session.proofs.copies.held_count.Goals as goal

pub held-requires : goal.held-requires
held-requires g c = c.requires.region

pub overflow_cast-result : goal.overflow_cast-result
overflow_cast-result g c =
    let few = c.requires.few c.in_ok-pieces.pieces.items c.in_ok-pieces.ensures in
    omega (arith, few, c.len.ensures)

pub returns : goal.returns
returns g c = (c.in_ok-pieces.pieces.items, c.in_ok-pieces.ensures, omega (arith, c.len.ensures))

pub returns-in_err-pieces : goal.returns-in_err-pieces
returns-in_err-pieces g c = not_ok _ c.from_residual.result _ c.from_residual.ensures.1
