use Rattle.std.proofs.Common.{rules}
use Rattle.cxl_deal.proofs.weave.Weave.new.Goals as goal

pub returns : goal.returns
returns c = search rules
