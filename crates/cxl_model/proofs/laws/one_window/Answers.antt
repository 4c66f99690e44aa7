use Rattle.cxl_model.proofs.BreachesWindows.{one_window}
use Rattle.cxl_model.proofs.laws.one_window.Goals as goal

pub returns : goal.returns
returns c = one_window
