use Rattle.std.proofs.Common.{sym, ap, ◌∙◌}
use Rattle.std.specs.Prelude.{is_some}
use Rattle.cxl_regs.specs.Reading.{has_range}
use Rattle.cxl_model.specs.System.{blocks_alone, decoders_at}
use Rattle.cxl_check.proofs.Searches.{list_any_by_position}
use Rattle.cxl_cause.proofs.lookups.serves.Goals as goal

pub returns : goal.returns
returns c =
    c.is_some.ensures ∙ ap is_some c.index_for.ensures ∙ sym (list_any_by_position (has_range c.args.range.now) (decoders_at (blocks_alone c.args.image.now) c.args.node))
