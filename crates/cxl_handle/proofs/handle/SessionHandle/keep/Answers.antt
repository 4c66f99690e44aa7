use Rattle.std.proofs.Common.{rules}
use Rattle.cxl_handle.proofs.handle.SessionHandle.keep.Goals as goal

pub returns-in-Err-clause-unopened : goal.returns-in-Err-clause-unopened
returns-in-Err-clause-unopened c = search rules
