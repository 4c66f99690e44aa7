use Rattle.cxl_cause.proofs.WantedCodes.{code_kept}
use Rattle.cxl_cause.proofs.laws.told_codes_of_ports_keep_the_rule.Goals as goal

pub returns : goal.returns
returns c = λ s n i block d w tree stands port window. code_kept s n i block d w tree (c.tree_laws.ensures.laws s.nodes tree) stands port window
