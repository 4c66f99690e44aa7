-- Each verb's arm: the word is the text that its bytes spell.
use Rattle.std.proofs.Common.{sym, ap, arith}
use Rattle.std.specs.Prelude.{codes}
use Rattle.std.proofs.lemmas.Slice.Eq.{text_from_reads}
use Rattle.cxl_script.specs.Verbs.{verb_of}
use Rattle.cxl_script.proofs.verb.verb_of_five.Goals as goal

pub returns-in-store : goal.returns-in-store
returns-in-store c =
    sym (ap verb_of (text_from_reads c.args.word.now (codes "store") (omega arith) (omega arith, (omega arith, (omega arith, (omega arith, (omega arith, tt)))))))

pub returns-in-begin : goal.returns-in-begin
returns-in-begin c =
    sym (ap verb_of (text_from_reads c.args.word.now (codes "begin") (omega arith) (omega arith, (omega arith, (omega arith, (omega arith, (omega arith, tt)))))))

pub returns-in-abort : goal.returns-in-abort
returns-in-abort c =
    sym (ap verb_of (text_from_reads c.args.word.now (codes "abort") (omega arith) (omega arith, (omega arith, (omega arith, (omega arith, (omega arith, tt)))))))

pub returns-in-range : goal.returns-in-range
returns-in-range c =
    sym (ap verb_of (text_from_reads c.args.word.now (codes "range") (omega arith) (omega arith, (omega arith, (omega arith, (omega arith, (omega arith, tt)))))))
