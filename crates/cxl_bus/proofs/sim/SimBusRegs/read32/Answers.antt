use Rattle.std.proofs.Common.{rules}
use Rattle.cxl_bus.proofs.sim.SimBusRegs.read32.Goals as goal

pub returns-clause-never_fails : goal.returns-clause-never_fails
returns-clause-never_fails c = search rules
