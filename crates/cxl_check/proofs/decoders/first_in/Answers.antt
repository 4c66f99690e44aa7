use Rattle.std.proofs.Common.{sym, ◌∙◌, arith}
use Rattle.std.proofs.lemmas.Option.{slice_get_within}
use Rattle.cxl_regs.specs.Reading.{has_range}
use Rattle.cxl_check.proofs.Searches.{position_is, position_none}
use Rattle.cxl_check.proofs.decoders.first_in.Goals as goal

pub returns-then-has_range : goal.returns-then-has_range
returns-then-has_range c =
    sym (position_is (has_range c.args.range.now) c.args.block.now.decoders c.loop-i.i c.decoder.result c.decoder.ensures.value (sym c.has_range.ensures ∙ c.if-has_range.true) c.loop-i.invariant)

pub returns : goal.returns
returns c =
    let none = c.loop-i.invariant in
    sym (position_none (has_range c.args.range.now) c.args.block.now.decoders
    (λ k y is. let within = slice_get_within c.args.block.now.decoders k y is in none k y (omega arith) is))
