use Rattle.std.proofs.Common.{◌≡◌, Some, sym, ap, ◌∙◌}
use Rattle.std.specs.Prelude.{slice_get}
use Rattle.std.specs.Option.{option_and_then}
use Rattle.cxl_regs.specs.Reading.{has_range}
use Rattle.cxl_model.specs.System.{blocks_alone, decoders_at}
use Rattle.cxl_check.proofs.Searches.{find_by_position}
use Rattle.cxl_cause.proofs.lookups.decoder_for.Goals as goal

pub returns-in-Some : goal.returns-in-Some
returns-in-Some c =
    let decoders = decoders_at (blocks_alone c.args.image.now) c.args.node in
    let there : slice_get decoders c.in-Some.i ≡ Some c.decoder.result = rw c.block.ensures.value c.decoder.ensures.value in
    sym (find_by_position (has_range c.args.range.now) decoders ∙ ap (option_and_then (slice_get decoders)) (sym c.index_for.ensures ∙ c.in-Some.is) ∙ there)

pub returns-in-None : goal.returns-in-None
returns-in-None c =
    let decoders = decoders_at (blocks_alone c.args.image.now) c.args.node in
    sym (find_by_position (has_range c.args.range.now) decoders ∙ ap (option_and_then (slice_get decoders)) (sym c.index_for.ensures ∙ c.in-None.is))
