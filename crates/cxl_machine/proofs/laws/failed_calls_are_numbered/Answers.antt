use Rattle.cxl_machine.proofs.Fails.{numbered}
use Rattle.cxl_machine.proofs.laws.failed_calls_are_numbered.Goals as goal

pub returns : goal.returns
returns c m command outcome trail failed fails = numbered m command outcome trail failed fails
