use Rattle.std.proofs.Common.{rules}
use Rattle.cxl_handle.proofs.handle.SessionHandle.close.Goals as goal

pub returns : goal.returns
returns c = search rules
