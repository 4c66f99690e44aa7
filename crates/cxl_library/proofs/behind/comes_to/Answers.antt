use Rattle.cxl_library.specs.Behind.{behind}
use Rattle.cxl_library.proofs.behind.comes_to.Goals as goal

pub returns-in-Ok : goal.returns-in-Ok
returns-in-Ok c = λ first at words.
    let text = c.in-Ok.ensures first at words in behind text.0 text.1 c.in-Ok.text.items c.if-script-gt-SCRIPT_LIMIT.false text.2 text.3 c.made.ensures
