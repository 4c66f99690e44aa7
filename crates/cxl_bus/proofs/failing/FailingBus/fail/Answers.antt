use Rattle.std.proofs.Common.{arith}
use Rattle.std.proofs.lemmas.Grind.{common_steps}
use Rattle.cxl_bus.proofs.failing.FailingBus.fail.Goals as goal

pub returns-then-len-lt-ROOM-clause-after : goal.returns-then-len-lt-ROOM-clause-after
returns-then-len-lt-ROOM-clause-after c = grind (arith, common_steps)
