use Rattle.std.proofs.Common.{arith}
use Rattle.cxl_deal.specs.WeaveInside.{fields_of}
use Rattle.cxl_deal.proofs.Swapping.{root-few}
use Rattle.cxl_deal.proofs.weave.swap.Goals as goal

pub parities-put-requires-clause-few : goal.parities-put-requires-clause-few
parities-put-requires-clause-few c = omega (arith, root-few (fields_of c.weave.inside) c.weave.invariant)

pub parities-put-requires-clause-maps : goal.parities-put-requires-clause-maps
parities-put-requires-clause-maps c = omega (arith, root-few (fields_of c.weave.inside) c.weave.invariant)

pub with_raw_bits-requires-clause-bits : goal.with_raw_bits-requires-clause-bits
with_raw_bits-requires-clause-bits c = omega (arith, root-few (fields_of c.weave.inside) c.weave.invariant)
