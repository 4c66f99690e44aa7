use Rattle.std.proofs.Common.{rules}
use Rattle.cxl_inputs.proofs.topology.faulty.Goals as goal

pub returns : goal.returns
returns c = search rules
