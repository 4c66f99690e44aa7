use Rattle.std.proofs.Common.{rules}
use Rattle.cxl_text.proofs.poison.put_entry.Goals as goal

pub returns : goal.returns
returns c = search rules
