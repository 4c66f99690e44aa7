use Rattle.std.proofs.Common.{arith}
use Rattle.std.proofs.lemmas.Grind.{common_steps}
use Rattle.cxl_regs.proofs.block.Block.stays.Goals as goal

pub returns-else-has_bit : goal.returns-else-has_bit
returns-else-has_bit c = grind (arith, common_steps)
