use Rattle.cxl_machine.proofs.KeepingCommands.{PartLaws, command_keeps}
use Rattle.cxl_machine.proofs.SameHost.{same_host}
use Rattle.cxl_machine.proofs.keeping.commands_keep_machines.Goals as goal

pub returns-clause-machine : goal.returns-clause-machine
returns-clause-machine c m command outcome answer is stores =
    let laws : PartLaws = record {
      accesses = c.accesses_keep_machines.ensures;
      undoes = c.undone_jobs_keep_machines.ensures;
      finishes = c.finished_jobs_keep_machines.ensures;
      releases = c.releases_begin_as_machines.ensures.machine;
      creates = c.asked_creates_begin_as_machines.ensures.machine;
    } in
    command_keeps laws m is command outcome answer stores

pub returns-clause-host : goal.returns-clause-host
returns-clause-host c = same_host
