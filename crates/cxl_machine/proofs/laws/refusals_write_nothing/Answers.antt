use Rattle.cxl_machine.proofs.WritingNothing.{nothing}
use Rattle.cxl_machine.proofs.laws.refusals_write_nothing.Goals as goal

pub returns : goal.returns
returns c m command answer trail is refused sends = nothing m answer trail refused command is sends
