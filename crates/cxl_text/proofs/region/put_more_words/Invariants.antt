use Rattle.std.proofs.Common.{◌≡◌, ◌++◌, take, map}
use Rattle.cxl_reply.specs.Words.{more_spaced}
use Rattle.cxl_reply.specs.Texts.{word_text}
use Rattle.cxl_text.proofs.region.put_more_words.Given as goal

-- the lines so far are appended
abbrev pub invariant-loop-word : goal.invariant-loop-word
invariant-loop-word l = l.out.items ≡ l.fn.out.items ++ more_spaced (map word_text (take l.word-index l.words))
