use Rattle.std.proofs.Common.{◌≡◌, ◌++◌, take}
use Rattle.std.specs.List.{flat_map}
use Rattle.cxl_regs.specs.Words.{head_words, words_of}
use Rattle.cxl_image.specs.Text.{words_text}
use Rattle.cxl_image.proofs.writing.put_block.Given as goal

-- the words before the decoders, and of the first decoders
abbrev pub invariant-loop-i : goal.invariant-loop-i
invariant-loop-i l = l.out.items ≡ l.fn.out.items ++ words_text (head_words l.block ++ flat_map words_of (take l.i l.block.decoders))
