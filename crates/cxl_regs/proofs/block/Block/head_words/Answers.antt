use Rattle.std.proofs.Common.{rules}
use Rattle.cxl_regs.proofs.block.Block.head_words.Goals as goal

pub returns : goal.returns
returns c = search rules
