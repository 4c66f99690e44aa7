use Rattle.std.proofs.Common.{◌∙◌, length}
use Rattle.cxl_media.proofs.Zeros.{zeros_from}
use Rattle.cxl_media.proofs.bytes.read_zeros.Goals as goal

pub returns : goal.returns
returns c = c.fill.ensures.after (λ y e. e) ∙ zeros_from c.args.at (length c.args.into.now) c.requires
