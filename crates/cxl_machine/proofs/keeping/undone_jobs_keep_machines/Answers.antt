use Rattle.cxl_machine.proofs.KeepingJobs.{undone_keeps}
use Rattle.cxl_machine.proofs.keeping.undone_jobs_keep_machines.Goals as goal

pub returns : goal.returns
returns c = undone_keeps
