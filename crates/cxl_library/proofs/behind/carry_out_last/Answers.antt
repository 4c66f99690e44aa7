use Rattle.std.proofs.Common.{◌∙◌, ℕ, List, length, ap, subst, arith}
use Rattle.cxl_bus.specs.declared.sent.Sent.{Sent}
use Rattle.cxl_io.specs.Lines.{lines_of}
use Rattle.cxl_machine.specs.Scripts.{Asked, lines_asked}
use Rattle.cxl_machine.specs.Turns.{AreTurns, machine_after, failed_in}
use Rattle.cxl_library.proofs.Telling.{all_asked, some_same, none_failed}
use Rattle.cxl_library.proofs.behind.carry_out_last.Goals as goal

pub returns-in-Done-clause-kept : goal.returns-in-Done-clause-kept
returns-in-Done-clause-kept c =
    let m = c.requires.kept.0 in
    let ended = c.act-status.ensures.answered m c.requires.kept.1 in
    (machine_after m ended.1, ended.2.at)

pub returns-in-Done-clause-answered : goal.returns-in-Done-clause-answered
returns-in-Done-clause-answered c = λ m at.
    let ended = c.act-status.ensures.answered m at in
    let all = all_asked m.settled.nodes ended.0 ended.1 c.new-source.result c.act-status.new.lines _ _ c.act-status.result c.in-Done.is ended.3
    ∙ ap (λ (lines : List ℕ). lines_asked (lines_of lines)) c.new-source.ensures in
    let words = some_same ended.2.words in
    let told = ap (λ (sent : List Sent). length sent) c.words.ensures in
    let few = c.if-words-ge-ROOM.false in (
      ended.1,
      subst (λ (asked : List Asked). AreTurns m asked ended.1) all ended.2.answered,
      ended.2.at,
      words,
      none_failed c.act-status.new.self.regs.overruns (failed_in ended.1) (c.act-status.ensures.unfailed (omega (arith, few, told))) ended.2.fails.at,
    )
