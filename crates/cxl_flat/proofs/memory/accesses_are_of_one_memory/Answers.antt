use Rattle.cxl_flat.proofs.Accesses.{turn_flat}
use Rattle.cxl_flat.proofs.memory.accesses_are_of_one_memory.Goals as goal

pub returns : goal.returns
returns c = λ m one turn is. turn_flat c.regions_share_no_byte.ensures.host m is one turn
