use Rattle.std.proofs.Common.{sym, subst}
use Rattle.cxl_held.specs.Sessions.{IsKept}
use Rattle.cxl_handle.proofs.handle.SessionHandle.put.Goals as goal

pub of-requires-2 : goal.of-requires-2
of-requires-2 c = subst IsKept (sym c.of.ensures) c.requires
