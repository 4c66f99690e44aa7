use Rattle.cxl_model.proofs.BreachesOfRanges.{accepted_where_whole}
use Rattle.cxl_model.proofs.laws.accepted_where_whole.Goals as goal

pub returns : goal.returns
returns c = accepted_where_whole
