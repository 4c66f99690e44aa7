use Rattle.std.proofs.Common.{rules}
use Rattle.cxl_topofile.proofs.attach.may_be_parent.Goals as goal

pub returns : goal.returns
returns c = search rules
