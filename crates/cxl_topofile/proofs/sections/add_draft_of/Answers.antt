use Rattle.std.proofs.Common.{rules}
use Rattle.cxl_topofile.proofs.sections.add_draft_of.Goals as goal

pub returns-in-Err : goal.returns-in-Err
returns-in-Err c = search rules
