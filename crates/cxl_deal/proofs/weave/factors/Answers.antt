use Rattle.std.proofs.Common.{arith}
use Rattle.cxl_deal.specs.WeaveInside.{fields_of}
use Rattle.cxl_deal.proofs.Swapping.{root-few}
use Rattle.cxl_deal.proofs.weave.factors.Goals as goal

pub overflow_add-result : goal.overflow_add-result
overflow_add-result c = omega (arith, root-few (fields_of c.weave.inside) c.weave.invariant)

pub returns-clause-few : goal.returns-clause-few
returns-clause-few c = root-few (fields_of c.weave.inside) c.weave.invariant
