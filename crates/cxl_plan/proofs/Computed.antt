-- What a request comes to, as it is computed, is what the planner's answer is known to be.
use Rattle.std.proofs.Common.{◌≡◌, ℕ, ◌<◌, List, [], Ok, Err, ap, ◌∙◌, arith}
use Rattle.cxl_topo.specs.Laws.{AreTreeLaws}
use Rattle.cxl_topo.proofs.Trees.{KnownTree}
use Rattle.cxl_model.specs.declared.request.Request.{Request}
use Rattle.cxl_model.specs.declared.plan.Plan.{Plan}
use Rattle.cxl_model.specs.declared.plan.PlanFault.{PlanFault}
use Rattle.cxl_model.specs.declared.plan.PlanFault.TheVariants as faults
use Rattle.cxl_model.specs.declared.plan.Reason.{Reason}
use Rattle.cxl_model.specs.System.{System, IsSystem}
use Rattle.cxl_legal.specs.Used.{AreEndpoints}
use Rattle.cxl_legal.specs.Endpoints.{FitsEndpoints}
use Rattle.cxl_plan.specs.Faults.{IsFirstPlan, IsFirstPlanFault, turn_of_fault}
use Rattle.cxl_plan.specs.Planned.{planned, unless_fault, in_first_window, stated_plan}
use Rattle.cxl_plan.specs.inner.Judging.{IsEarly}
use Rattle.cxl_plan.proofs.FaultOrder.{faults_6}
use Rattle.cxl_plan.proofs.LegalPlans.{none_repeats}
use Rattle.cxl_plan.proofs.ComputedFaults.{fault_told, none_before_windows}
use Rattle.cxl_plan.proofs.ComputedWindows.{window_told, base_told, no_window_told, reasons_told}
use Rattle.cxl_plan.proofs.ComputedPlans.{plan_told}

module _ (s : System) (request : Request) (system : IsSystem s) (laws : AreTreeLaws s.nodes) (named : AreEndpoints s request) where
  tree : KnownTree s.nodes
  tree = record { tree = system.tree; laws = laws }

  early : FitsEndpoints s request → IsEarly request
  early fits = record { distinct = none_repeats [] request.endpoints fits.distinct; ways = fits.ways; size = fits.size }

  pub plan_computed : (plan : Plan) → FitsEndpoints s request → IsFirstPlan s request plan → planned s request ≡ Ok plan
  plan_computed plan fits is =
      ap (unless_fault s request) (none_before_windows s tree request named 6 (faults_6 s request (early fits) fits) (omega arith))
      ∙ ap (in_first_window s request) (window_told s tree request named system.made.indexed is.window plan.found.base is.first)
      ∙ ap (λ (base : ℕ). Ok (stated_plan s request is.window base)) (base_told s tree request named is.window plan.found.base is.first.takes)
      ∙ ap Ok (plan_told s tree request is.window plan.found.base plan is.stated)

  no_window_computed : (reasons : List Reason) → IsFirstPlanFault s request (faults.NoWindow reasons) → planned s request ≡ Err (faults.NoWindow reasons)
  no_window_computed reasons is =
      ap (unless_fault s request) (none_before_windows s tree request named 6 is.first (omega arith))
      ∙ ap (in_first_window s request) (no_window_told s tree request named reasons is.holds)
      ∙ ap (λ (rs : List Reason). Err (faults.NoWindow rs)) (reasons_told s tree request named reasons is.holds)

  early_computed : (fault : PlanFault) → turn_of_fault fault < 6 → IsFirstPlanFault s request fault → planned s request ≡ Err fault
  early_computed fault low is = ap (unless_fault s request) (fault_told s tree request named fault is.holds is.first low)

  pub fault_computed : (fault : PlanFault) → IsFirstPlanFault s request fault → planned s request ≡ Err fault
  fault_computed (faults.Repeat m) is = early_computed (faults.Repeat m) (omega arith) is
  fault_computed (faults.Ways n) is = early_computed (faults.Ways n) (omega arith) is
  fault_computed faults.Size is = early_computed faults.Size (omega arith) is
  fault_computed (faults.Uneven n) is = early_computed (faults.Uneven n) (omega arith) is
  fault_computed (faults.NoDecoder n) is = early_computed (faults.NoDecoder n) (omega arith) is
  fault_computed (faults.Span m fault) is = early_computed (faults.Span m fault) (omega arith) is
  fault_computed (faults.NoWindow reasons) is = no_window_computed reasons is
  fault_computed faults.Memory is = absurd is.holds
