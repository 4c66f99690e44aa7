use Rattle.std.proofs.Common.{◌≡◌, ◌++◌, take}
use Rattle.cxl_library.specs.Behind.{word_lines}
use Rattle.cxl_library.proofs.word_lines.put_words.Given as goal

-- the lines so far are appended
abbrev pub invariant-loop-word : goal.invariant-loop-word
invariant-loop-word l = l.out.items ≡ l.fn.out.items ++ word_lines (take l.word-index l.words)
