use Rattle.cxl_machine.proofs.KeepingBegun.{create_begins}
use Rattle.cxl_machine.proofs.keeping.creates_begin_as_machines.Goals as goal

pub returns : goal.returns
returns c = create_begins c.create_commits_its_rows.ensures.some
