use Rattle.std.proofs.Common.{sym, ◌∙◌, arith}
use Rattle.std.proofs.lemmas.Option.{slice_get_within}
use Rattle.cxl_regs.specs.Reading.{has_range}
use Rattle.cxl_check.proofs.Searches.{position_is, position_none}
use Rattle.cxl_cause.proofs.lookups.index_for.Goals as goal

pub returns-then-has_range : goal.returns-then-has_range
returns-then-has_range c =
    rw c.block-block.ensures.value
    (sym (position_is (has_range c.args.range.now) c.block-block.result.now.decoders c.loop-i.i c.decoder.result c.decoder.ensures.value (sym c.has_range.ensures ∙ c.if-has_range.true) c.loop-i.invariant))

pub returns : goal.returns
returns c =
    let none = c.loop-i.invariant in
    rw c.block-block.ensures.value
    (sym (position_none (has_range c.args.range.now) c.block-block.result.now.decoders
    (λ k y is. let within = slice_get_within c.block-block.result.now.decoders k y is in none k y (omega arith) is)))
