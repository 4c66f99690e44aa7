use Rattle.std.proofs.Common.{rules}
use Rattle.cxl_window.proofs.restrictions.is_fixed.Goals as goal

pub returns : goal.returns
returns c = search rules
