use Rattle.std.proofs.Common.{arith}
use Rattle.std.proofs.lemmas.Grind.{common_steps}
use Rattle.cxl_library.proofs.slice_source.SliceSourceSource.read.Goals as goal

pub returns-clause-given : goal.returns-clause-given
returns-clause-given c = grind (arith, common_steps)
