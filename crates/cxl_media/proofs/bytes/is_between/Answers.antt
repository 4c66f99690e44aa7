use Rattle.std.proofs.Common.{rules}
use Rattle.cxl_media.proofs.bytes.is_between.Goals as goal

pub returns-else-from-number : goal.returns-else-from-number
returns-else-from-number c = search rules
