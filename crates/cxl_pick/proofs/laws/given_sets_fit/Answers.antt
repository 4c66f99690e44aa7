use Rattle.cxl_pick.proofs.Parts.{in_window, set_long}
use Rattle.cxl_pick.proofs.FittedWindows.{given_fits}
use Rattle.cxl_pick.proofs.laws.given_sets_fit.Goals as goal

pub returns-clause-ways : goal.returns-clause-ways
returns-clause-ways c = λ s want w given set system ports accepted ways there is rising.
    set_long (record { of = record { laws = c.tree_laws.ensures.laws s.nodes system.tree; system = system; there = there; window = in_window s want w given is }; ports = ports; ways = ways; rising = rising })

pub returns-clause-fits : goal.returns-clause-fits
returns-clause-fits c = λ s want w start given set system ports accepted ways size stated there is rising starts.
    given_fits (record { of = record { laws = c.tree_laws.ensures.laws s.nodes system.tree; system = system; there = there; window = in_window s want w given is }; ports = ports; ways = ways; rising = rising })
    accepted size stated start starts
