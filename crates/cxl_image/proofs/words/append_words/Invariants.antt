use Rattle.std.proofs.Common.{◌≡◌, ◌++◌, take}
use Rattle.cxl_image.specs.Text.{words_text}
use Rattle.cxl_image.proofs.words.append_words.Given as goal

-- the words so far are appended
abbrev pub invariant-loop-word : goal.invariant-loop-word
invariant-loop-word l = l.out.items ≡ l.fn.out.items ++ words_text (take l.word-index l.words)
