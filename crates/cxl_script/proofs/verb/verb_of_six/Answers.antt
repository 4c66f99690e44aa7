-- Each verb's arm: the word is the text that its bytes spell.
use Rattle.std.proofs.Common.{sym, ap, arith}
use Rattle.std.specs.Prelude.{codes}
use Rattle.std.proofs.lemmas.Slice.Eq.{text_from_reads}
use Rattle.cxl_script.specs.Verbs.{verb_of}
use Rattle.cxl_script.proofs.verb.verb_of_six.Goals as goal

pub returns-in-create : goal.returns-in-create
returns-in-create c =
    sym (ap verb_of (text_from_reads c.args.word.now (codes "create") (omega arith) (omega arith, (omega arith, (omega arith, (omega arith, (omega arith, (omega arith, tt))))))))

pub returns-in-poison : goal.returns-in-poison
returns-in-poison c =
    sym (ap verb_of (text_from_reads c.args.word.now (codes "poison") (omega arith) (omega arith, (omega arith, (omega arith, (omega arith, (omega arith, (omega arith, tt))))))))

pub returns-in-spread : goal.returns-in-spread
returns-in-spread c =
    sym (ap verb_of (text_from_reads c.args.word.now (codes "spread") (omega arith) (omega arith, (omega arith, (omega arith, (omega arith, (omega arith, (omega arith, tt))))))))
