use Rattle.cxl_regs.proofs.Fields.{decoder_of-words_of}
use Rattle.cxl_regs.proofs.words.words_stand_for_decoder.Goals as goal

pub returns : goal.returns
returns c = decoder_of-words_of
