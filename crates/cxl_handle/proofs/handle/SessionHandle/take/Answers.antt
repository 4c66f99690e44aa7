use Rattle.std.proofs.Common.{sym, subst, ap, ◌∙◌}
use Rattle.std.specs.Prelude.{Some}
use Rattle.cxl_held.specs.Sessions.{IsKept}
use Rattle.cxl_handle.specs.declared.handle.SessionHandle.{SessionHandle}
use Rattle.cxl_handle.proofs.handle.SessionHandle.take.Goals as goal

pub returns-in-Some-clause-taken : goal.returns-in-Some-clause-taken
returns-in-Some-clause-taken c = (
  ap (λ (handle : SessionHandle). handle.held) (sym c.replace.ensures.value) ∙ c.in-Some.ensures.0 ∙ ap Some (sym c.into_box.ensures),
  subst IsKept (sym c.into_box.ensures) c.in-Some.ensures.1,
)
