use Rattle.cxl_enc.proofs.Lists.{contains_at}
use Rattle.cxl_move.specs.Sides.{AreSides}
use Rattle.cxl_session.proofs.Holding.{pieces_fit}
use Rattle.cxl_session.proofs.Carrying.{side_of, of_sides, held_of, sides_stand}
use Rattle.cxl_session.proofs.copies.sides_hold_pieces.Goals as goal

pub returns-clause-sides : goal.returns-clause-sides
returns-clause-sides c = λ session m pair first second from to v w stands is two one other.
    of_sides m.settled two.from two.to from to v w (side_of session m first two.from from v stands two.from_at one) (side_of session m second two.to to w stands two.to_at other) AreSides
    (sides_stand session m pair first second is two c.regions_share_no_byte.ensures.device)

pub returns-clause-few : goal.returns-clause-few
returns-clause-few c = λ session media m region place found w pieces holds at side held.
    pieces_fit c.blocks_are_pieces.ensures.one session media m holds region (contains_at m.live place region at.there) pieces
    (held_of m.settled region found w media.blocks pieces (side_of session m place region found w holds.stands at side) held)
