use Rattle.cxl_script.specs.declared.command.Command.TheVariants as commands
use Rattle.cxl_machine.proofs.KeepingCommands.{asked_idle, asked_fresh, create_begins}
use Rattle.cxl_machine.proofs.keeping.asked_creates_begin_as_machines.Goals as goal

pub returns-clause-idle : goal.returns-clause-idle
returns-clause-idle c m create job asks = asked_idle m create job asks

pub returns-clause-fresh : goal.returns-clause-fresh
returns-clause-fresh c m create job is asks = asked_fresh m create job asks (c.creates_are_legal.ensures m (commands.Create create) is)

pub returns-clause-machine : goal.returns-clause-machine
returns-clause-machine c m create job is asks =
    create_begins m create job asks c.creates_begin_as_machines.ensures is (c.creates_are_legal.ensures m (commands.Create create) is)
