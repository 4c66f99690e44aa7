use Rattle.cxl_machine.proofs.RefusedCreates.{named_refused, picked_refused}
use Rattle.cxl_machine.proofs.keeping.refused_creates_have_causes.Goals as goal

pub returns-clause-named : goal.returns-clause-named
returns-clause-named c m create refusal is free line asks = named_refused m create refusal free asks c.answers_hold_of_lines.ensures.refusal is line

pub returns-clause-picked : goal.returns-clause-picked
returns-clause-picked c m create ways refusal is free states code asks =
    picked_refused m create refusal free asks c.answers_hold_of_lines.ensures.refusal is ways states code
