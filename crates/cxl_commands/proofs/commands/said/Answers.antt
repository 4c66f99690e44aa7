use Rattle.cxl_commands.proofs.Stops.{asks_nothing}
use Rattle.cxl_commands.proofs.commands.said.Goals as goal

pub returns-in-Help : goal.returns-in-Help
returns-in-Help c = λ files. rw c.in-Help.is (c.helped.ensures, asks_nothing files)

pub returns-in-Version : goal.returns-in-Version
returns-in-Version c = λ files. rw c.in-Version.is (c.version_told.ensures, asks_nothing files)
