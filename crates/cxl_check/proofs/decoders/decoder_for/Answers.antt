use Rattle.std.proofs.Common.{◌≡◌, Some, None, sym, ap, ◌∙◌}
use Rattle.std.specs.Prelude.{find, position, slice_get}
use Rattle.std.specs.Option.{option_and_then}
use Rattle.cxl_regs.specs.Reading.{has_range}
use Rattle.cxl_model.specs.Hosts.{as_system}
use Rattle.cxl_check.proofs.Kept.{holder}
use Rattle.cxl_check.proofs.Searches.{find_by_position}
use Rattle.cxl_check.proofs.decoders.decoder_for.Goals as goal

pub index_in-requires : goal.index_in-requires
index_in-requires c =
    holder (as_system c.args.host.now) c.requires c.one_holder.ensures.range c.args.node c.block-block.result.now c.args.range.now c.block-block.ensures.value

pub returns-in-None : goal.returns-in-None
returns-in-None c =
    let decoders = c.block-block.result.now.decoders in
    let none : position (has_range c.args.range.now) decoders ≡ None = sym c.index_in.ensures ∙ c.in-None.is in
    let found : find (has_range c.args.range.now) decoders ≡ None = find_by_position (has_range c.args.range.now) decoders ∙ rw none in
    rw c.block-block.ensures.value (sym found)

pub returns-in-Some : goal.returns-in-Some
returns-in-Some c =
    let decoders = c.block-block.result.now.decoders in
    let at : position (has_range c.args.range.now) decoders ≡ Some c.in-Some.i = sym c.index_in.ensures ∙ c.in-Some.is in
    rw c.block-block.ensures.value (sym (find_by_position (has_range c.args.range.now) decoders ∙ ap (option_and_then (slice_get decoders)) at ∙ c.decoder.ensures.value))
