use Rattle.std.proofs.Common.{◌∙◌, ℕ, List, refl, ap, subst}
use Rattle.cxl_inputs.specs.declared.status.Status.TheVariants.{Done}
use Rattle.cxl_io.specs.Lines.{lines_of}
use Rattle.cxl_machine.specs.Scripts.{Asked, lines_asked}
use Rattle.cxl_machine.specs.Turns.{AreTurns}
use Rattle.cxl_library.proofs.Telling.{all_asked}
use Rattle.cxl_library.proofs.behind.behind_lines.Goals as goal

pub returns-in-Ok-clause-answered : goal.returns-in-Ok-clause-answered
returns-in-Ok-clause-answered c = λ m at.
    let ended = c.in-Ok.ensures.answered m at in
    let all = all_asked m.settled.nodes ended.0 ended.1 c.new-source.result c.pass.new.lines _ _ Done refl ended.3
    ∙ ap (λ (lines : List ℕ). lines_asked (lines_of lines)) c.new-source.ensures in
    (ended.1, subst (λ (asked : List Asked). AreTurns m asked ended.1) all ended.2.answered, ended.2.at, ended.2.unfailed)
