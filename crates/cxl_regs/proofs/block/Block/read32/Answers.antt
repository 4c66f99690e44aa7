use Rattle.cxl_regs.proofs.WordPlaces.{word_there}
use Rattle.cxl_regs.proofs.block.Block.read32.Goals as goal

pub returns-clause-some : goal.returns-clause-some
returns-clause-some c = rw c.word.ensures (word_there c.args.self.now c.args.off)
