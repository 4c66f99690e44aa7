use Rattle.cxl_regs.proofs.Places.{places_stay}
use Rattle.cxl_regs.proofs.laws.writes_keep_places.Goals as goal

pub returns : goal.returns
returns c = places_stay
