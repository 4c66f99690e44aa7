use Rattle.std.proofs.Common.{rules}
use Rattle.cxl_session.proofs.session.Session.undo.Goals as goal

pub returns-clause-part : goal.returns-clause-part
returns-clause-part g c = search rules

pub returns-clause-failed : goal.returns-clause-failed
returns-clause-failed g c = search rules
