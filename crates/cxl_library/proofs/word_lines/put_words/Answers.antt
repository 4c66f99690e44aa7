use Rattle.cxl_text.proofs.Lines.{item_step}
use Rattle.cxl_library.specs.Behind.{word_line}
use Rattle.cxl_library.proofs.word_lines.put_words.Goals as goal

pub loop-word-preserved : goal.loop-word-preserved
loop-word-preserved c =
    item_step word_line c.args.words.now c.loop-word.word-index _ _ _ _ c.loop-word-test.true c.loop-word.invariant c.in_ok-put_word.ensures
