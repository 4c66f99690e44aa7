use Rattle.std.proofs.Common.{◌≡◌, ℕ, false, List, ap, ◌∙◌, rules}
use Rattle.cxl_enc.specs.Counters.{next_count}
use Rattle.cxl_regs.specs.Blocks.{blocks_after}
use Rattle.cxl_regs.specs.Registers.{Registers}
use Rattle.cxl_pipe.specs.Commits.{untaken, refused_commit}
use Rattle.cxl_pipe.specs.Protocol.{write_question, says_taken, answers_write}
use Rattle.cxl_pipe.proofs.Accesses.{failed_unanswered}
use Rattle.cxl_pipe.proofs.pipe_bus.PipeBusRegs.write32.Goals as goal

pub returns-then-not-takes-clause-failed : goal.returns-then-not-takes-clause-failed
returns-then-not-takes-clause-failed g c =
    untaken (failed_unanswered (write_question c.args.node c.args.off c.args.value) says_taken answers_write c.args.self.now c.takes.new.self c.fail-then-not-takes.new.self c.if-not-takes.ensures.no c.if-not-takes.ensures.kept.faults c.fail-then-not-takes.ensures.after)

pub returns-then-not-read_back-clause-failed : goal.returns-then-not-read_back-clause-failed
returns-then-not-read_back-clause-failed g c =
    let going : c.args.self.now.strange ≡ false = search rules in
    let same = c.if-not-read_back.ensures.kept.faults ∙ c.if-not-takes.ensures.kept.faults in
    refused_commit going c.takes.new.self c.if-not-takes.ensures.yes c.read_back.new.self c.if-not-read_back.ensures.no
    (c.fail-then-not-read_back.ensures.after ∙ ap (λ (n : ℕ). record c.read_back.new.self { faults = next_count n }) same)

pub returns-clause-taken : goal.returns-clause-taken
returns-clause-taken g c =
    let going : c.args.self.now.strange ≡ false = search rules in
    let same = c.if-not-read_back.ensures.kept.blocks ∙ c.if-not-takes.ensures.kept.blocks in
    record {
      going = going;
      mid = c.takes.new.self;
      took = c.if-not-takes.ensures.yes;
      last = c.read_back.new.self;
      read = c.if-not-read_back.ensures.yes;
      left = c.keep.ensures ∙ ap (λ (blocks : List Registers). record c.read_back.new.self { blocks = blocks_after blocks c.args.node c.args.off c.args.value }) same;
    }
