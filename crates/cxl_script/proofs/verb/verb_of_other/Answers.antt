-- Each verb's arm: the word is the text that its bytes spell.
use Rattle.std.proofs.Common.{sym, ap, arith}
use Rattle.std.specs.Prelude.{codes}
use Rattle.std.proofs.lemmas.Slice.Eq.{text_from_reads}
use Rattle.cxl_script.specs.Verbs.{verb_of}
use Rattle.cxl_script.proofs.verb.verb_of_other.Goals as goal

pub returns-in-up : goal.returns-in-up
returns-in-up c =
    sym (ap verb_of (text_from_reads c.args.word.now (codes "up") (omega arith) (omega arith, (omega arith, tt))))

pub returns-in-destroy : goal.returns-in-destroy
returns-in-destroy c =
    sym (ap verb_of (text_from_reads c.args.word.now (codes "destroy") (omega arith) (omega arith, (omega arith, (omega arith, (omega arith, (omega arith, (omega arith, (omega arith, tt)))))))))
