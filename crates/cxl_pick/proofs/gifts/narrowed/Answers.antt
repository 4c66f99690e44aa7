use Rattle.std.proofs.Common.{rules}
use Rattle.cxl_pick.proofs.gifts.narrowed.Goals as goal

pub returns-else-end-start-clause-above : goal.returns-else-end-start-clause-above
returns-else-end-start-clause-above c = search rules
