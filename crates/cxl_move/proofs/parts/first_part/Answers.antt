use Rattle.std.proofs.Common.{rules}
use Rattle.cxl_move.proofs.parts.first_part.Goals as goal

pub returns : goal.returns
returns c = search rules
