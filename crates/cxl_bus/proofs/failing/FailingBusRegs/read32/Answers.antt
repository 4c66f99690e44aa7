use Rattle.std.proofs.Common.{rules}
use Rattle.cxl_bus.proofs.failing.FailingBusRegs.read32.Goals as goal

pub returns-then-begin-clause-after : goal.returns-then-begin-clause-after
returns-then-begin-clause-after c = search rules

pub returns-clause-fails : goal.returns-clause-fails
returns-clause-fails c = search rules

pub returns-clause-after : goal.returns-clause-after
returns-clause-after c = search rules
