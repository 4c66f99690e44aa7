use Rattle.std.proofs.Common.{ap, sym, ◌∙◌, ◌++◌, List, ℕ, arith}
use Rattle.std.proofs.lemmas.List.{append-nil, take_all}
use Rattle.cxl_image.specs.Text.{word_bytes, words_text}
use Rattle.cxl_image.proofs.Texts.{appended_more}
use Rattle.cxl_image.proofs.words.append_words.Goals as goal

pub loop-word-init : goal.loop-word-init
unfolding words_text
loop-word-init c = sym (append-nil c.args.out.now.items)

pub loop-word-preserved : goal.loop-word-preserved
unfolding words_text
loop-word-preserved c =
    appended_more word_bytes c.args.out.now.items c.loop-word.out.items c.append_word.new.out.items c.args.words.now c.loop-word.word-index _ c.loop-word-test.true c.loop-word.invariant c.in_ok-append_word.ensures

pub returns : goal.returns
returns c = c.loop-word.invariant ∙ ap (λ (ws : List ℕ). c.args.out.now.items ++ words_text ws) (take_all c.loop-word.word-index c.args.words.now (omega arith))
