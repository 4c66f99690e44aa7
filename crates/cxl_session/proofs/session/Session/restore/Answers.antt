use Rattle.std.proofs.Common.{rules}
use Rattle.cxl_session.proofs.session.Session.restore.Goals as goal

pub returns-in-Releases : goal.returns-in-Releases
returns-in-Releases c = search rules
