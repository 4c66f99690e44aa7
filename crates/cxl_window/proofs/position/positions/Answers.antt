use Rattle.cxl_window.proofs.BelowWays.{position_of-lt, position_at-lt}
use Rattle.cxl_window.proofs.position.positions.Goals as goal

pub returns-clause-all : goal.returns-clause-all
returns-clause-all c = λ w h window. position_of-lt c.parities_tell_raw_bits.ensures w h window

pub returns-clause-found : goal.returns-clause-found
returns-clause-found c = λ w h position window there. position_at-lt c.parities_tell_raw_bits.ensures w h position window there
