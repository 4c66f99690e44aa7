use Rattle.std.proofs.Common.{◌≡◌, true, All}
use Rattle.cxl_regs.specs.Registers.{Registers}
use Rattle.cxl_model.specs.declared.plan.Plan.{Plan}
use Rattle.cxl_model.specs.declared.request.Request.{Request}
use Rattle.cxl_model.specs.System.{System, IsSystem}
use Rattle.cxl_model.specs.Accepted.{IsAccepted}
use Rattle.cxl_model.specs.Plans.{with_rows, IsLegalPlan}
use Rattle.cxl_model.specs.Regions.{region_range}
use Rattle.cxl_apply.proofs.Planned.{planned}
use Rattle.cxl_apply.proofs.Shapes.{planned_system, planned_enabled}
use Rattle.cxl_apply.proofs.After.{Left, left_ranges, left_by_create, planned_elsewhere}
use Rattle.cxl_apply.proofs.laws.regions_stay_after_a_create.Goals as goal

left : (c : goal.After-regions_stay) (s : System) (request : Request) (plan : Plan) → IsSystem s → IsAccepted s → All (λ (block : Registers). block.enabled ≡ true) s.blocks → IsLegalPlan s request plan
    → Left s (with_rows s plan.rows) (region_range plan.found)
left c s request plan system accepted enabled is =
    left_by_create c.words_stand_for_decoder.ensures c.committed_stand_first.ensures.before s (region_range plan.found) plan.rows is.1.rows_of.rising
    (planned s request plan system accepted enabled is)

pub returns-clause-system : goal.returns-clause-system
returns-clause-system c = planned_system

pub returns-clause-enabled : goal.returns-clause-enabled
returns-clause-enabled c = λ s rows. planned_enabled rows s.blocks

pub returns-clause-region : goal.returns-clause-region
returns-clause-region c = λ s request plan w found system accepted enabled is region.
    let after = left c s request plan system accepted enabled is in
    c.regions_stay.ensures.region s (with_rows s plan.rows) w found (after.same (region_range found) (planned_elsewhere s request plan w found is region)) after.keeps region

pub returns-clause-ranges : goal.returns-clause-ranges
returns-clause-ranges c = λ s request plan r system accepted enabled is.
    left_ranges s (with_rows s plan.rows) (region_range plan.found) (left c s request plan system accepted enabled is) r
