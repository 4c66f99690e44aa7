use Rattle.std.proofs.Common.{◌∙◌}
use Rattle.cxl_cause.proofs.WantedValues.{of_size, below_kept, above_kept, size_told}
use Rattle.cxl_cause.proofs.laws.told_sizes_keep_the_rule.Goals as goal

pub returns-clause-below : goal.returns-clause-below
returns-clause-below c = λ s n i block d size stands low is. of_size s n i block d (record d { size = size }) stands ∙ below_kept d block size low is

pub returns-clause-above : goal.returns-clause-above
returns-clause-above c = λ s n i block d size stands is. of_size s n i block d (record d { size = size }) stands ∙ above_kept d block size is

pub returns-clause-told : goal.returns-clause-told
returns-clause-told c = λ d size some even low none. size_told d size some even low none
