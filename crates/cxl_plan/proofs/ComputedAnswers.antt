-- What is computed for a request over an accepted image is told of it.
use Rattle.std.proofs.Common.{◌≡◌, Result, Ok, Err, sym, ap, subst, ◌∙◌, inl, inr}
use Rattle.std.specs.Result.{is_err}
use Rattle.std.proofs.lemmas.Bool.{false≢true}
use Rattle.cxl_topo.specs.Laws.{AreTreeLaws}
use Rattle.cxl_model.specs.declared.request.Request.{Request}
use Rattle.cxl_model.specs.declared.plan.Plan.{Plan}
use Rattle.cxl_model.specs.declared.plan.PlanFault.{PlanFault}
use Rattle.cxl_model.specs.System.{System, IsSystem}
use Rattle.cxl_model.specs.Accepted.{IsAccepted}
use Rattle.cxl_legal.specs.Used.{AreEndpoints, HasBytePorts}
use Rattle.cxl_legal.specs.Endpoints.{FitsEndpoints}
use Rattle.cxl_plan.specs.Faults.{IsFirstPlan, IsFirstPlanFault}
use Rattle.cxl_plan.specs.Planned.{planned}
use Rattle.cxl_plan.proofs.Computed.{plan_computed, fault_computed}
use Rattle.cxl_plan.proofs.Told.{StatesPlans, answered}

-- ---- results

abbrev plan_or : Plan → Result Plan PlanFault → Plan
plan_or a (Ok b) = b
plan_or a (Err e) = a

abbrev fault_or : PlanFault → Result Plan PlanFault → PlanFault
fault_or e (Ok a) = e
fault_or e (Err f) = f

one_plan : (answer : Result Plan PlanFault) (a b : Plan) → answer ≡ Ok a → answer ≡ Ok b → a ≡ b
one_plan answer a b is other = ap (plan_or a) (sym is ∙ other)

one_fault : (answer : Result Plan PlanFault) (a b : PlanFault) → answer ≡ Err a → answer ≡ Err b → a ≡ b
one_fault answer a b is other = ap (fault_or a) (sym is ∙ other)

not_both : (answer : Result Plan PlanFault) (plan : Plan) (fault : PlanFault) → answer ≡ Ok plan → answer ≡ Err fault → ⊥
not_both answer plan fault is other = false≢true (ap is_err (sym is ∙ other))

module _ (s : System) (request : Request) (system : IsSystem s) (laws : AreTreeLaws s.nodes) (ports : HasBytePorts s.nodes) (accepted : IsAccepted s) (named : AreEndpoints s request) (states : StatesPlans) where
  pub told_plan : (plan : Plan) → planned s request ≡ Ok plan → FitsEndpoints s request × IsFirstPlan s request plan
  told_plan plan is =
      elim (answered s request system laws ports accepted named states) [
        | inl (fits, (other, first)) ↦
            let same : other ≡ plan = one_plan (planned s request) other plan (plan_computed s request system laws named other fits first) is in
            (fits, subst (IsFirstPlan s request) same first)
        | inr (fault, first) ↦ absurd (not_both (planned s request) plan fault is (fault_computed s request system laws named fault first))
      ]

  pub told_fault : (fault : PlanFault) → planned s request ≡ Err fault → IsFirstPlanFault s request fault
  told_fault fault is =
      elim (answered s request system laws ports accepted named states) [
        | inl (fits, (plan, first)) ↦ absurd (not_both (planned s request) plan fault (plan_computed s request system laws named plan fits first) is)
        | inr (other, first) ↦
            let same : other ≡ fault = one_fault (planned s request) other fault (fault_computed s request system laws named other first) is in
            subst (IsFirstPlanFault s request) same first
      ]
