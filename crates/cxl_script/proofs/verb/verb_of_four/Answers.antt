-- Each verb's arm: the word is the text that its bytes spell.
use Rattle.std.proofs.Common.{sym, ap, arith}
use Rattle.std.specs.Prelude.{codes}
use Rattle.std.proofs.lemmas.Slice.Eq.{text_from_reads}
use Rattle.cxl_script.specs.Verbs.{verb_of}
use Rattle.cxl_script.proofs.verb.verb_of_four.Goals as goal

pub returns-in-show : goal.returns-in-show
returns-in-show c =
    sym (ap verb_of (text_from_reads c.args.word.now (codes "show") (omega arith) (omega arith, (omega arith, (omega arith, (omega arith, tt))))))

pub returns-in-down : goal.returns-in-down
returns-in-down c =
    sym (ap verb_of (text_from_reads c.args.word.now (codes "down") (omega arith) (omega arith, (omega arith, (omega arith, (omega arith, tt))))))

pub returns-in-load : goal.returns-in-load
returns-in-load c =
    sym (ap verb_of (text_from_reads c.args.word.now (codes "load") (omega arith) (omega arith, (omega arith, (omega arith, (omega arith, tt))))))

pub returns-in-step : goal.returns-in-step
returns-in-step c =
    sym (ap verb_of (text_from_reads c.args.word.now (codes "step") (omega arith) (omega arith, (omega arith, (omega arith, (omega arith, tt))))))

pub returns-in-copy : goal.returns-in-copy
returns-in-copy c =
    sym (ap verb_of (text_from_reads c.args.word.now (codes "copy") (omega arith) (omega arith, (omega arith, (omega arith, (omega arith, tt))))))

pub returns-in-move : goal.returns-in-move
returns-in-move c =
    sym (ap verb_of (text_from_reads c.args.word.now (codes "move") (omega arith) (omega arith, (omega arith, (omega arith, (omega arith, tt))))))
