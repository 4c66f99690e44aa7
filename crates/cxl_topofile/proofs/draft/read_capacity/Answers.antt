use Rattle.std.proofs.Common.{rules}
use Rattle.cxl_topofile.specs.inner.Steps.{capacity_of}
use Rattle.cxl_topofile.proofs.draft.read_capacity.Goals as goal

pub returns-in_err-ram : goal.returns-in_err-ram
unfolding capacity_of
returns-in_err-ram c = search rules

pub returns : goal.returns
unfolding capacity_of
returns c = search rules
