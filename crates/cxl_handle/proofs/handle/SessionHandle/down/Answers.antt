use Rattle.std.proofs.Common.{sym, subst}
use Rattle.cxl_held.specs.Sessions.{IsKept}
use Rattle.cxl_handle.proofs.handle.SessionHandle.down.Goals as goal

pub down_over-code-requires : goal.down_over-code-requires
down_over-code-requires c = record { kept = subst IsKept (sym c.deref_mut.ensures.value) c.in-Some.ensures.taken.1 }
