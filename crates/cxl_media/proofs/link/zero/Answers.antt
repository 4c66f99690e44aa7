use Rattle.std.proofs.Common.{rules}
use Rattle.cxl_media.proofs.link.zero.Goals as goal

pub returns : goal.returns
returns c = search rules
