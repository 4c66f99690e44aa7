use Rattle.cxl_pick.proofs.Targets.{given_where_kept}
use Rattle.cxl_pick.proofs.laws.fitting_sets_are_given.Goals as goal

pub returns : goal.returns
returns c = λ s want w set base all fits. given_where_kept (record { laws = c.tree_laws.ensures.laws s.nodes fits.system.tree; all = all; fits = fits })
