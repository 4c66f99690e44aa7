-- An answer's plan is legal, where it is a fault no plan is, and it is what the request comes to.
use Rattle.std.proofs.Common.{◌≡◌, ◌≢◌, ◌≤◌, ◌∙◌, sym, ap, subst, ℕ, Result, Ok, Err, IfOk, IfErr, OnOk}
use Rattle.cxl_window.specs.Fields.{WindowFields}
use Rattle.cxl_model.specs.declared.request.Request.{Request}
use Rattle.cxl_model.specs.declared.plan.Plan.{Plan}
use Rattle.cxl_model.specs.declared.plan.PlanFault.{PlanFault}
use Rattle.cxl_model.specs.declared.plan.PlanFault.TheVariants as faults
use Rattle.cxl_model.specs.System.{System, IsSystem}
use Rattle.cxl_model.specs.Accepted.{IsAccepted}
use Rattle.cxl_model.specs.Plans.{IsLegalPlanIn, IsLegalPlan}
use Rattle.cxl_legal.specs.Used.{AreEndpoints, HasBytePorts}
use Rattle.cxl_legal.specs.Endpoints.{FitsEndpoints}
use Rattle.cxl_legal.specs.Stated.{IsStatedPlan, Fits}
use Rattle.cxl_plan.specs.Faults.{IsFirstPlanFault, IsFirstPlan, IsLeastPlan}
use Rattle.cxl_plan.specs.Planned.{planned}
use Rattle.cxl_plan.proofs.LegalPlans.{MeanEndpoints, MeanWindow, MeanBase, no_legal_plan, no_earlier_window, no_lower_base}

abbrev pub MakesLegal : Type 0
MakesLegal = (s : System) (request : Request) (w : WindowFields) (base : ℕ) (plan : Plan) → Fits s request w base → IsStatedPlan s request w base plan → IsLegalPlanIn s request w plan

abbrev pub ComesToPlan : Type 0
ComesToPlan = (s : System) (request : Request) (plan : Plan) → IsSystem s → AreEndpoints s request → FitsEndpoints s request → IsFirstPlan s request plan → planned s request ≡ Ok plan

abbrev pub ComesToFault : Type 0
ComesToFault = (s : System) (request : Request) (fault : PlanFault) → IsSystem s → AreEndpoints s request → IsFirstPlanFault s request fault → planned s request ≡ Err fault

module _ (s : System) (request : Request) (system : IsSystem s) (ports : HasBytePorts s.nodes) (accepted : IsAccepted s) (named : AreEndpoints s request) where
  pub legal_answer : MakesLegal → (answer : Result Plan PlanFault) → OnOk answer (FitsEndpoints s request) → IfOk answer (IsFirstPlan s request) → IfOk answer (IsLegalPlan s request)
  legal_answer law (Ok plan) fits is =
      let takes = is.first.takes in
      let all : Fits s request is.window plan.found.base = record {
        system = system;
        ports = ports;
        accepted = accepted;
        named = named;
        endpoints = fits;
        window = takes.window;
        starts = record { can = takes.least.can; inside = takes.inside };
      } in
      (is.window, law s request is.window plan.found.base plan all is.stated)
  legal_answer law (Err fault) fits is = tt

  -- an answer that is not for want of memory is what the request comes to
  pub computed_answer : ComesToPlan → ComesToFault → (answer : Result Plan PlanFault) → OnOk answer (FitsEndpoints s request) → IfOk answer (IsFirstPlan s request)
      → IfErr answer (λ fault. fault ≢ faults.Memory → IsFirstPlanFault s request fault) → answer ≢ Err faults.Memory → answer ≡ planned s request
  computed_answer plan_law fault_law (Ok plan) fits is told real = sym (plan_law s request plan system named fits is)
  computed_answer plan_law fault_law (Err fault) fits is told real = sym (fault_law s request fault system named (told (λ same. real (ap Err same))))

  module _ (endpoints_law : MeanEndpoints) (window_law : MeanWindow) (base_law : MeanBase) where
    pub no_plan : (fault : PlanFault) → fault ≢ faults.Memory → IsFirstPlanFault s request fault → (plan : Plan) → IsLegalPlan s request plan → ⊥
    no_plan fault real is plan legal =
        no_legal_plan endpoints_law window_law base_law s request system ports accepted named fault real is.holds legal.0 plan legal.1

    pub no_plan_answer : (answer : Result Plan PlanFault) → IfErr answer (λ fault. fault ≢ faults.Memory → IsFirstPlanFault s request fault) → IfErr answer (λ fault. fault ≢ faults.Memory → (plan : Plan) → IsLegalPlan s request plan → ⊥)
    no_plan_answer (Ok plan) is = tt
    no_plan_answer (Err fault) is = λ real plan legal. no_plan fault real (is real) plan legal

    pub least_answer : (answer : Result Plan PlanFault) → IfOk answer (IsFirstPlan s request) → IfOk answer (IsLeastPlan s request)
    least_answer (Ok plan) is = record {
      window = λ v other legal.
          subst (λ (n : ℕ). n ≤ v.index) (sym is.stated.window)
          (no_earlier_window endpoints_law window_law base_law s request system ports accepted named is.window plan.found.base is.first v other legal);
      base = λ v other legal same.
          no_lower_base endpoints_law window_law base_law s request system ports accepted named is.window plan.found.base is.first v other legal (same ∙ is.stated.window);
    }
    least_answer (Err fault) is = tt
