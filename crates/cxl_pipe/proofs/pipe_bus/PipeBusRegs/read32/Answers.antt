use Rattle.cxl_pipe.specs.Protocol.{read_question, tells_word, answers_read}
use Rattle.cxl_pipe.proofs.Accesses.{failed_unanswered}
use Rattle.cxl_pipe.proofs.pipe_bus.PipeBusRegs.read32.Goals as goal

pub returns-then-not-tells-clause-failed : goal.returns-then-not-tells-clause-failed
returns-then-not-tells-clause-failed g c =
    (c.word-word.result, c.word-word.ensures, failed_unanswered (read_question c.args.node c.args.off) (tells_word c.word-word.result) answers_read c.args.self.now c.tells.new.self c.fail-then-not-tells.new.self c.if-not-tells.ensures.no c.if-not-tells.ensures.kept.faults c.fail-then-not-tells.ensures.after)
