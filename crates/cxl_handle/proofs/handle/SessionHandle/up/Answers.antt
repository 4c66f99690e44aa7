use Rattle.std.proofs.Common.{sym, subst}
use Rattle.cxl_held.specs.Sessions.{IsKept}
use Rattle.cxl_handle.proofs.handle.SessionHandle.up.Goals as goal

pub up_over-code-requires : goal.up_over-code-requires
up_over-code-requires c = record { kept = subst IsKept (sym c.deref_mut.ensures.value) c.in-Some-take.ensures.taken.1 }
