use Rattle.std.proofs.Common.{rules}
use Rattle.cxl_text.proofs.short_lines.short.Goals as goal

pub returns-in-Moved-clause-text : goal.returns-in-Moved-clause-text
returns-in-Moved-clause-text c = search rules
