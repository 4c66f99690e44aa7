use Rattle.std.proofs.Common.{rules}
use Rattle.cxl_text.proofs.refusal.put_window.Goals as goal

pub returns : goal.returns
returns c = search rules
