use Rattle.cxl_session.proofs.Ups.{if_none}
use Rattle.cxl_session.proofs.session.Session.told_through.Goals as goal

pub returns-clause-none : goal.returns-clause-none
returns-clause-none c = if_none c.told_by.result _ _ (λ none m stands is _. none m stands is) c.told_by.ensures.none
