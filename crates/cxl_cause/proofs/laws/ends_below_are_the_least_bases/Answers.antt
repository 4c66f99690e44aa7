use Rattle.std.proofs.Common.{◌+◌, sym, ◌∙◌}
use Rattle.cxl_cause.proofs.WantedValues.{of_base, end_kept, end_least}
use Rattle.cxl_cause.proofs.laws.ends_below_are_the_least_bases.Goals as goal

pub returns-clause-keeps : goal.returns-clause-keeps
returns-clause-keeps c = λ s n i block d below stands is.
    of_base s n i block d (record d { base = below.base + below.size }) stands ∙ (rw is (end_kept d below))

pub returns-clause-least : goal.returns-clause-least
returns-clause-least c = λ s n i base block d below stands is committed keeps.
    end_least d below base committed (rw is at (sym (of_base s n i block d (record d { base = base }) stands) ∙ keeps))
