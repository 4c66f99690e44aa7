use Rattle.cxl_regs.proofs.Shape.{after_word_shape}
use Rattle.cxl_regs.proofs.Kept.{after_word_block}
use Rattle.cxl_regs.proofs.laws.write_laws.Goals as goal

pub returns-clause-shape : goal.returns-clause-shape
returns-clause-shape c = after_word_shape

pub returns-clause-block : goal.returns-clause-block
returns-clause-block c = after_word_block
