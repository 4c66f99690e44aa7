use Rattle.cxl_shell.proofs.Lifted.{no_session, of_its_files}
use Rattle.cxl_shell.proofs.runs.runs_of_files.Goals as goal

pub returns-clause-form : goal.returns-clause-form
returns-clause-form c = λ form old new before after status run none. no_session form old new before after status run none

pub returns-clause-status : goal.returns-clause-status
returns-clause-status c = λ form old new before after status run own. of_its_files form old new before after status run own
