use Rattle.std.proofs.Common.{rules}
use Rattle.cxl_library.proofs.room.TextRoomSink.write.Goals as goal

pub returns-then-n-eq0-clause-some : goal.returns-then-n-eq0-clause-some
returns-then-n-eq0-clause-some c = search rules

pub returns-then-n-eq0-clause-unswallowed : goal.returns-then-n-eq0-clause-unswallowed
returns-then-n-eq0-clause-unswallowed c = search rules

pub returns-clause-taken : goal.returns-clause-taken
returns-clause-taken c = search rules
