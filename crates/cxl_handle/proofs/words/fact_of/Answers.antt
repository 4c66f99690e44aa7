use Rattle.std.proofs.Common.{rules}
use Rattle.cxl_handle.proofs.words.fact_of.Goals as goal

pub returns : goal.returns
returns c = search rules
