use Rattle.std.proofs.Common.{sym, subst}
use Rattle.cxl_held.specs.Sessions.{IsKept}
use Rattle.cxl_handle.proofs.handle.SessionHandle.store.Goals as goal

pub store_over-code-requires-clause-kept : goal.store_over-code-requires-clause-kept
store_over-code-requires-clause-kept c = subst IsKept (sym c.deref_mut.ensures.value) c.in-Some.ensures.taken.1
