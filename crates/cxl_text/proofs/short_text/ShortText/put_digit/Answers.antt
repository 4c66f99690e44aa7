use Rattle.std.proofs.Common.{List, ℕ, ◌++◌, ap, sym, ◌∙◌}
use Rattle.cxl_io.proofs.ReadBack.{decimal-one}
use Rattle.cxl_text.proofs.short_text.ShortText.put_digit.Goals as goal

pub returns-clause-text : goal.returns-clause-text
returns-clause-text c =
    c.put.ensures.text ∙ ap (λ (t : List ℕ). c.args.self.now ++ t) (sym (decimal-one c.args.number c.requires.digit))
