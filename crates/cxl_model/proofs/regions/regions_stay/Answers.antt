use Rattle.cxl_model.proofs.Staying.{region_stays, whole_stays, same_rules}
use Rattle.cxl_model.proofs.regions.regions_stay.Goals as goal

pub returns-clause-region : goal.returns-clause-region
returns-clause-region c = region_stays

pub returns-clause-whole : goal.returns-clause-whole
returns-clause-whole c = whole_stays

pub returns-clause-rules : goal.returns-clause-rules
returns-clause-rules c = λ s t r rule n i d same high there has. same_rules s t r same rule n i d high there has
