use Rattle.cxl_machine.proofs.LegalCreates.{creates_legally}
use Rattle.cxl_machine.proofs.keeping.creates_are_legal.Goals as goal

pub returns : goal.returns
returns c m command is = creates_legally c.answers_hold_of_lines.ensures.legal m is command
