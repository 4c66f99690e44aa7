use Rattle.std.proofs.Common.{rules}
use Rattle.cxl_reason.proofs.terms.port_code.Goals as goal

pub returns : goal.returns
returns c = search rules
