use Rattle.std.proofs.Common.{sym, ◌∙◌, arith}
use Rattle.std.proofs.lemmas.Option.{slice_get_within}
use Rattle.cxl_walk.proofs.OwnBlocks.{own_here, own_missing}
use Rattle.cxl_walk.proofs.owned.own_for.Goals as goal

pub returns-then-has_range : goal.returns-then-has_range
returns-then-has_range c = sym (own_here c.args.image.now c.args.range.now c.args.node c.block-block.result.now c.block-block.ensures.value c.loop-index.index c.decoder-decoder.result c.interleave_ways.result c.decoder-decoder.ensures.value (sym c.has_range.ensures ∙ c.if-has_range.true) c.loop-index.invariant c.interleave_ways.ensures.value)

pub returns : goal.returns
returns c =
    let none = c.loop-index.invariant in
    sym (own_missing c.args.image.now c.args.range.now c.args.node c.block-block.result.now c.block-block.ensures.value
    (λ k y is. let within = slice_get_within c.block-block.result.now.decoders k y is in none k y (omega arith) is))
