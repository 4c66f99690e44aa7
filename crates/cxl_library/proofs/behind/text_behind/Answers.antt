use Rattle.std.proofs.Common.{List, subst}
use Rattle.std.proofs.lemmas.Result.{IfOk-weaker}
use Rattle.cxl_bus.specs.declared.sent.Sent.{Sent}
use Rattle.cxl_library.specs.Behind.{IsTextOf}
use Rattle.cxl_library.proofs.behind.text_behind.Goals as goal

pub returns : goal.returns
returns c = λ first at words.
    let is = c.in_ok-after.ensures.answered first at words in
    IfOk-weaker c.text_of-text.result _ _ (λ text told. (is.0, is.1, is.2, subst (λ (sent : List Sent). IsTextOf c.args.of is.0 sent text.items) is.4 told)) (c.text_of-text.ensures is.0 is.3)
