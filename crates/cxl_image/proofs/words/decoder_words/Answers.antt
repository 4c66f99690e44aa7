use Rattle.std.proofs.Common.{◌+◌, ◌-◌, arith}
use Rattle.cxl_image.proofs.Ranges.{words_read}
use Rattle.cxl_image.proofs.words.decoder_words.Goals as goal

pub returns : goal.returns
returns c = words_read c.args.bytes.now c.read_u32_into.new.dst c.args.at ((c.args.at + 32) - c.args.at) (omega arith) c.read_u32_into.auto.dst c.read_u32_into.ensures
