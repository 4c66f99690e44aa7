use Rattle.cxl_move.proofs.Told.{media_of_alike}
use Rattle.cxl_move.proofs.holdings.holdings_stand_in_any_order.Goals as goal

pub returns : goal.returns
returns c = media_of_alike
