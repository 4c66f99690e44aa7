use Rattle.std.proofs.Common.{ap, ◌∙◌, List, ℕ, ◌++◌}
use Rattle.cxl_regs.specs.Words.{head_words}
use Rattle.cxl_image.specs.Text.{words_text}
use Rattle.cxl_image.proofs.Texts.{put_more}
use Rattle.cxl_image.proofs.writing.put_block.Goals as goal

pub loop-i-preserved : goal.loop-i-preserved
loop-i-preserved c =
    put_more c.args.out.now.items c.loop-i.out.items c.append_words-in-loop-i.new.out.items (head_words c.args.block.now) c.args.block.now.decoders c.loop-i.i c.decoder-decoder.result c.loop-i.invariant
    (c.in_ok-append_words-2.ensures ∙ ap (λ (ws : List ℕ). c.loop-i.out.items ++ words_text ws) c.words_of.ensures) c.decoder-decoder.ensures.value
