use Rattle.std.proofs.Common.{sym, ap, ◌∙◌}
use Rattle.std.specs.Prelude.{is_some}
use Rattle.cxl_regs.specs.Reading.{has_range}
use Rattle.cxl_check.proofs.Searches.{list_any_by_position, list_any_one, passes_there}
use Rattle.cxl_check.proofs.decoders.serves.Goals as goal

pub returns-then-has_range_at : goal.returns-then-has_range_at
returns-then-has_range_at c =
    let decoders = c.block-block.result.now.decoders in
    let d = passes_there (has_range c.args.range.now) decoders c.args.likely (sym c.has_range_at.ensures ∙ c.if-has_range_at.true) in
    rw c.block-block.ensures.value (c.if-has_range_at.true ∙ sym (list_any_one (has_range c.args.range.now) decoders c.args.likely d.0 d.1 d.2))

pub returns-else-has_range_at : goal.returns-else-has_range_at
returns-else-has_range_at c =
    let decoders = c.block-block.result.now.decoders in
    rw c.block-block.ensures.value (c.is_some.ensures ∙ ap is_some c.first_in.ensures ∙ sym (list_any_by_position (has_range c.args.range.now) decoders))
