use Rattle.std.proofs.Common.{sym}
use Rattle.cxl_io.proofs.Writes.{told_with-nil, Takes-append, TakesPrefix-first, TakesPrefix-second}
use Rattle.cxl_io.proofs.sink.writes_join.Goals as goal

pub returns-clause-nothing : goal.returns-clause-nothing
returns-clause-nothing c = λ state. sym (told_with-nil state.taken)

pub returns-clause-both : goal.returns-clause-both
returns-clause-both c = λ old mid new xs ys first second. Takes-append old mid new xs ys first second

pub returns-clause-first : goal.returns-clause-first
returns-clause-first c = λ old new xs ys some. TakesPrefix-first ys some

pub returns-clause-second : goal.returns-clause-second
returns-clause-second c = λ old mid new xs ys first some. TakesPrefix-second xs first some
