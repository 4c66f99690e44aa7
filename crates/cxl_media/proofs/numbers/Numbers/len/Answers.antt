use Rattle.std.proofs.Common.{sym, ap, ◌∙◌, length}
use Rattle.cxl_media.proofs.Parts.{length_numbers}
use Rattle.cxl_media.proofs.numbers.Numbers.len.Goals as goal

pub returns : goal.returns
returns c = sym (length_numbers c.self.inside.parts.items c.self.inside.made.items c.self.inside.total) ∙ ap length c.self.view_is
