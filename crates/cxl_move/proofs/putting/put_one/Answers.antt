use Rattle.std.proofs.Common.{rules}
use Rattle.cxl_move.proofs.putting.put_one.Goals as goal

pub returns-in-Err : goal.returns-in-Err
returns-in-Err c = search rules
