use Rattle.std.proofs.Common.{rules}
use Rattle.cxl_inputs.proofs.status.Status.code.Goals as goal

pub returns-in-BadImage : goal.returns-in-BadImage
returns-in-BadImage c = search rules
