use Rattle.std.proofs.Common.{rules}
use Rattle.cxl_library.proofs.slices.SlicesFetch.fetch.Goals as goal

pub returns-clause-ok : goal.returns-clause-ok
returns-clause-ok c = search rules

pub returns-clause-too_large : goal.returns-clause-too_large
returns-clause-too_large c = search rules
