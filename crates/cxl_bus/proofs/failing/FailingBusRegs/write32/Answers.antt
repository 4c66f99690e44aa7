use Rattle.std.proofs.Common.{rules}
use Rattle.cxl_bus.proofs.failing.FailingBusRegs.write32.Goals as goal

pub returns-clause-after : goal.returns-clause-after
returns-clause-after c = search rules
