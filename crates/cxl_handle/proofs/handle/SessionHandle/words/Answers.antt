use Rattle.std.proofs.Common.{rules}
use Rattle.cxl_handle.proofs.handle.SessionHandle.words.Goals as goal

pub returns-in-Some-clause-told : goal.returns-in-Some-clause-told
returns-in-Some-clause-told c = search rules
