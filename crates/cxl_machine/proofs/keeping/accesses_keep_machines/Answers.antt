use Rattle.cxl_machine.proofs.KeepingAccesses.{access_keeps}
use Rattle.cxl_machine.proofs.keeping.accesses_keep_machines.Goals as goal

pub returns : goal.returns
returns c m command outcome answer is access stores at =
    access_keeps c.weaves_fill_their_regions.ensures.turns m is command outcome answer access stores at
