use Rattle.std.proofs.Common.{rules}
use Rattle.cxl_handle.proofs.handle.SessionHandle.stay.Goals as goal

pub returns-clause-same : goal.returns-clause-same
returns-clause-same c = search rules
