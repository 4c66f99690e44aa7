use Rattle.std.proofs.Common.{sym, ◌∙◌}
use Rattle.cxl_regs.specs.Reading.{has_range}
use Rattle.cxl_check.proofs.Searches.{passes_there, position_once}
use Rattle.cxl_check.proofs.decoders.index_in.Goals as goal

pub returns-then-has_range_at : goal.returns-then-has_range_at
returns-then-has_range_at c =
    let decoders = c.args.block.now.decoders in
    let d = passes_there (has_range c.args.range.now) decoders c.args.likely (sym c.has_range_at.ensures ∙ c.if-has_range_at.true) in
    sym (position_once (has_range c.args.range.now) decoders c.args.likely d.0 d.1 d.2 (λ j e there also. c.requires j c.args.likely e d.0 there d.1 also d.2))
