use Rattle.cxl_machine.proofs.Writes.{create_is, one_create, release_is, one_release}
use Rattle.cxl_machine.proofs.laws.jobs_have_one_list_of_writes.Goals as goal

pub returns-clause-create : goal.returns-clause-create
returns-clause-create c = one_create

pub returns-clause-release : goal.returns-clause-release
returns-clause-release c = one_release

pub returns-clause-of_create : goal.returns-clause-of_create
returns-clause-of_create c = create_is

pub returns-clause-of_release : goal.returns-clause-of_release
returns-clause-of_release c = release_is
