use Rattle.std.proofs.Common.{List, ℕ, map}
use Rattle.cxl_enc.proofs.Lists.{appended}
use Rattle.cxl_reply.specs.Words.{more_spaced}
use Rattle.cxl_reply.specs.Texts.{word_text}
use Rattle.cxl_text.proofs.Lines.{word_step, all_items}
use Rattle.cxl_text.proofs.region.put_more_words.Goals as goal

pub loop-word-preserved : goal.loop-word-preserved
loop-word-preserved c =
    word_step word_text c.args.words.now c.loop-word.word-index _ _ _ _ c.loop-word-test.true c.loop-word.invariant (appended _ _ _ _ _ c.in_ok-push.ensures.items (rw c.from.ensures at c.in_ok-put_hex.ensures.ok))

pub returns : goal.returns
returns c =
    all_items (λ (words : List ℕ). more_spaced (map word_text words)) c.args.words.now c.loop-word.word-index _ _ c.loop-word-test.false c.loop-word.invariant
