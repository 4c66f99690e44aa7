use Rattle.std.proofs.Common.{rules}
use Rattle.cxl_window.proofs.judge.topology_has.Goals as goal

pub returns : goal.returns
returns c = search rules
