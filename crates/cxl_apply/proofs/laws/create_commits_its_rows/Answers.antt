use Rattle.std.proofs.Common.{get_or}
use Rattle.std.proofs.lemmas.List.Elements.{Contains-get_or}
use Rattle.cxl_model.specs.Regions.{region_range}
use Rattle.cxl_apply.proofs.Planned.{can_create, all_committed, plan_apart, planned}
use Rattle.cxl_apply.proofs.After.{plan_has_rows}
use Rattle.cxl_apply.proofs.laws.create_commits_its_rows.Goals as goal

pub returns-clause-rows : goal.returns-clause-rows
returns-clause-rows c = λ s request plan accepted is k d within.
    can_create c.committed_stand_first.ensures.before s (region_range plan.found) (get_or plan.rows k d) (λ rule n i low. accepted.each rule n i)
    (is.1.each_row (get_or plan.rows k d) (Contains-get_or plan.rows k d within))

pub returns-clause-apart : goal.returns-clause-apart
returns-clause-apart c = plan_apart

pub returns-clause-committed : goal.returns-clause-committed
returns-clause-committed c = λ s request plan writes system accepted enabled is create.
    all_committed c.words_stand_for_decoder.ensures c.committed_stand_first.ensures.before s (region_range plan.found) plan.rows writes
    (planned s request plan system accepted enabled is) create

pub returns-clause-some : goal.returns-clause-some
returns-clause-some c = plan_has_rows
