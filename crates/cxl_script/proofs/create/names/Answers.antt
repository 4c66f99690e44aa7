use Rattle.std.proofs.Common.{ap, sym, ◌∙◌}
use Rattle.cxl_script.specs.Grammar.{names_in}
use Rattle.cxl_script.proofs.NameLists.{one_more, behind_names}
use Rattle.cxl_script.proofs.create.names.Goals as goal

pub loop-word-preserved : goal.loop-word-preserved
loop-word-preserved c =
    one_more (names_in c.args.words.now.words) c.loop-word.names.items c.in-Some.word.at c.in-Some.word.text.now c.in_ok-word_as_name.field-0 c.loop-word.words.words c.next.new.self.words
    c.loop-word.invariant c.in-Some.ensures.words (sym c.in_ok-word_as_name.ensures)
    ∙ sym (ap (λ names. behind_names names (names_in c.next.new.self.words)) c.in_ok-push.ensures.items)
