use Rattle.cxl_gen.proofs.RangedCommands.{commands_ranged}
use Rattle.cxl_gen.proofs.Trees.{made_nodes_are_tree}
use Rattle.cxl_gen.proofs.laws.made_systems_are_sound.Goals as goal

pub returns-clause-ranged : goal.returns-clause-ranged
returns-clause-ranged c = commands_ranged

pub returns-clause-tree : goal.returns-clause-tree
returns-clause-tree c = λ n some few. made_nodes_are_tree n few
