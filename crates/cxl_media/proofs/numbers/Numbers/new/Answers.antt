use Rattle.std.proofs.Common.{arith}
use Rattle.cxl_media.proofs.Parts.{numbers_new, parts_none}
use Rattle.cxl_media.proofs.numbers.Numbers.new.Goals as goal

pub invariant_of-result : goal.invariant_of-result
invariant_of-result c =
    parts_none _ _ c.div_ceil-count.result c.args.total _ (c.in_ok-parts.ensures.items_if_clones_equal (λ y e. e)) c.in_ok-made.ensures.items
    (omega (arith, c.div_ceil-count.ensures)) c.in_ok-made.ensures.capacity c.requires (omega (arith, c.div_ceil-count.ensures, c.requires))

pub returns : goal.returns
returns c = numbers_new _ _ c.div_ceil-count.result c.args.total (c.in_ok-parts.ensures.items_if_clones_equal (λ y e. e))
