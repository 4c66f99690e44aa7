use Rattle.std.proofs.Common.{arith}
use Rattle.std.proofs.lemmas.Grind.{common_steps}
use Rattle.cxl_media.proofs.cell_list.name_place.Goals as goal

pub returns-then-place-kept-clause-there : goal.returns-then-place-kept-clause-there
returns-then-place-kept-clause-there c = grind (arith, common_steps)
