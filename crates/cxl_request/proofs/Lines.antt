-- What a create line is answered, in the words of plans.
use Rattle.std.proofs.Common.{◌≡◌, ◌≢◌, ◌⊎◌, ℕ, ◌≤◌, Option, Some, None, List, [], Result, Ok, Err, IfOk, IfErr, refl, sym, ap, subst, ◌∙◌, inl, inr, arith}
use Rattle.std.specs.Prelude.{IfSome}
use Rattle.std.proofs.lemmas.Bool.{cases_lt}
use Rattle.std.proofs.lemmas.Option.{none-some, same_Some}
use Rattle.cxl_enc.specs.declared.faults.Memory.{Memory as NoMemory}
use Rattle.cxl_legal.specs.Used.{AreEndpoints}
use Rattle.cxl_model.specs.Plans.{IsLegalPlanIn, IsLegalPlan}
use Rattle.cxl_model.specs.System.{System}
use Rattle.cxl_model.specs.declared.plan.Plan.{Plan}
use Rattle.cxl_model.specs.declared.plan.PlanFault.{PlanFault}
use Rattle.cxl_model.specs.declared.plan.PlanFault.TheVariants as faults
use Rattle.cxl_model.specs.declared.request.Request.{Request}
use Rattle.cxl_pick.specs.Picked.{picked}
use Rattle.cxl_pick.specs.Picking.{asked, IsPicked, TellsPickFault, HasPlanIn, PlansFirst, NothingPlans}
use Rattle.cxl_pick.specs.declared.fault.PickFault.{PickFault}
use Rattle.cxl_pick.specs.declared.fault.PickFault.TheVariants as picks
use Rattle.cxl_pick.specs.declared.want.Want.{Want}
use Rattle.cxl_plan.specs.Faults.{IsFirstPlanFault, IsFirstPlan, IsLeastPlan}
use Rattle.cxl_plan.specs.Planned.{planned}
use Rattle.cxl_reply.specs.declared.reply.Reply.{Reply}
use Rattle.cxl_reply.specs.declared.reply.Reply.TheVariants as replies
use Rattle.cxl_script.specs.Grammar.{StatesGranCode}
use Rattle.cxl_script.specs.declared.command.Create.{Create}
use Rattle.cxl_window.specs.Fields.{WindowFields}
use Rattle.cxl_request.specs.Endpoints.{first_unknown, endpoints_named}
use Rattle.cxl_request.specs.Requests.{request_for, request_by_name, want_of, plan_or_refusal, pick_reply, plan_unless_unknown, plan_over_pick, plan_of_line, AsksForPlan}
use Rattle.cxl_request.specs.Plans as lines
use Rattle.cxl_request.specs.Plans.{HasPlanOver, HasNoPlanOver, ArePicked, AreEndpointsOf, named, IsPlanFor, HasNoLegalPlan, TellsNoPick, no_ways, no_size, no_set, IsRefusal, unknown, faulty, not_picked, HasPlan, over_named, over_some, HasNoPlan, of_unknown, none_over_named, none_over_any}
use Rattle.cxl_request.proofs.EndpointNames.{are_endpoints}

-- ---- answers

same_plan : (plan other : Plan) → ◌≡◌ {A = Result Plan Reply} (Ok plan) (Ok other) → plan ≡ other
same_plan plan other e = cc

same_refusal : (reply other : Reply) → ◌≡◌ {A = Result Plan Reply} (Err reply) (Err other) → reply ≡ other
same_refusal reply other e = cc

not_both : {P : Type 0} (plan : Plan) (refusal : Reply) → ◌≡◌ {A = Result Plan Reply} (Ok plan) (Err refusal) → P
not_both plan refusal e = absurd (differ e)
  where
    differ : ◌≡◌ {A = Result Plan Reply} (Ok plan) (Err refusal) → ⊥
    differ e = cc

plan_given : (answer : Result Plan PlanFault) (plan : Plan) → Ok plan ≡ plan_or_refusal answer → answer ≡ Ok plan
plan_given (Ok own) plan e = ap Ok (sym (same_plan plan own e))
plan_given (Err fault) plan e = not_both plan (replies.Refused fault) e

pub fault_given : (P : Reply → Type 0) (answer : Result Plan PlanFault) (refusal : Reply) → Err refusal ≡ plan_or_refusal answer → ((fault : PlanFault) → answer ≡ Err fault → P (replies.Refused fault)) → P refusal
fault_given P (Ok plan) refusal e each = not_both plan refusal (sym e)
fault_given P (Err fault) refusal e each = subst P (same_refusal (replies.Refused fault) refusal (sym e)) (each fault refl)

-- ---- by the line's form: what a plan and a refusal come from

module _ (s : System) (create : Create) where
  pub plan_from : {P : Type 0} (plan : Plan) → AsksForPlan s create (Ok plan)
      → (create.ways ≡ None → first_unknown s.nodes create.endpoints ≡ None → planned s (request_by_name s.nodes create) ≡ Ok plan → P)
      → ((ways : ℕ) (set : List ℕ) → create.ways ≡ Some ways → picked s (want_of create ways) ≡ Ok set → planned s (request_for create set) ≡ Ok plan → P) → P
  plan_from {P} plan is by_name by_pick = by_ways create.ways refl is
    where
      by_known : create.ways ≡ None → (some : Option (List ℕ)) → first_unknown s.nodes create.endpoints ≡ some → Ok plan ≡ plan_unless_unknown s create some → P
      by_known line (Some name) at e = not_both plan (replies.NoEndpoint name) e
      by_known line None at e = by_name line at (plan_given (planned s (request_by_name s.nodes create)) plan e)

      by_set : (ways : ℕ) → create.ways ≡ Some ways → (answer : Result (List ℕ) PickFault) → picked s (want_of create ways) ≡ answer → Ok plan ≡ plan_over_pick s create answer → P
      by_set ways line (Ok set) at e = by_pick ways set line at (plan_given (planned s (request_for create set)) plan e)
      by_set ways line (Err fault) at e = not_both plan (pick_reply fault) e

      by_ways : (some : Option ℕ) → create.ways ≡ some → Ok plan ≡ plan_of_line s create some → P
      by_ways None line e = by_known line (first_unknown s.nodes create.endpoints) refl e
      by_ways (Some ways) line e = by_set ways line (picked s (want_of create ways)) refl e

  pub refusal_from : (P : Reply → Type 0) (refusal : Reply) → AsksForPlan s create (Err refusal)
      → ((name : List ℕ) → create.ways ≡ None → first_unknown s.nodes create.endpoints ≡ Some name → P (replies.NoEndpoint name))
      → ((fault : PlanFault) → create.ways ≡ None → first_unknown s.nodes create.endpoints ≡ None → planned s (request_by_name s.nodes create) ≡ Err fault → P (replies.Refused fault))
      → ((ways : ℕ) (fault : PickFault) → create.ways ≡ Some ways → picked s (want_of create ways) ≡ Err fault → P (pick_reply fault))
      → ((ways : ℕ) (set : List ℕ) (fault : PlanFault) → create.ways ≡ Some ways → picked s (want_of create ways) ≡ Ok set → planned s (request_for create set) ≡ Err fault → P (replies.Refused fault))
      → P refusal
  refusal_from P refusal is by_unknown by_fault by_pick by_set_fault = by_ways create.ways refl is
    where
      by_known : create.ways ≡ None → (some : Option (List ℕ)) → first_unknown s.nodes create.endpoints ≡ some → Err refusal ≡ plan_unless_unknown s create some → P refusal
      by_known line (Some name) at e = subst P (same_refusal (replies.NoEndpoint name) refusal (sym e)) (by_unknown name line at)
      by_known line None at e = fault_given P (planned s (request_by_name s.nodes create)) refusal e (λ fault is_fault. by_fault fault line at is_fault)

      by_set : (ways : ℕ) → create.ways ≡ Some ways → (answer : Result (List ℕ) PickFault) → picked s (want_of create ways) ≡ answer → Err refusal ≡ plan_over_pick s create answer → P refusal
      by_set ways line (Ok set) at e = fault_given P (planned s (request_for create set)) refusal e (λ fault is_fault. by_set_fault ways set fault line at is_fault)
      by_set ways line (Err fault) at e = subst P (same_refusal (pick_reply fault) refusal (sym e)) (by_pick ways fault line at)

      by_ways : (some : Option ℕ) → create.ways ≡ some → Err refusal ≡ plan_of_line s create some → P refusal
      by_ways None line e = by_known line (first_unknown s.nodes create.endpoints) refl e
      by_ways (Some ways) line e = by_set ways line (picked s (want_of create ways)) refl e

-- ---- what each plan is, and each refusal, is so of what is answered

module _ (s : System) (create : Create) where
  pub where_plan : (P : Plan → Type 0) → ((plan : Plan) → AsksForPlan s create (Ok plan) → P plan) → (made : Result (Result Plan Reply) NoMemory) → IfOk made (AsksForPlan s create) → IfOk made (λ answer. IfOk answer P)
  where_plan P each (Ok (Ok plan)) is = each plan is
  where_plan P each (Ok (Err refusal)) is = tt
  where_plan P each (Err none) is = tt

  pub where_refusal : (P : Reply → Type 0) → ((refusal : Reply) → AsksForPlan s create (Err refusal) → P refusal) → (made : Result (Result Plan Reply) NoMemory) → IfOk made (AsksForPlan s create) → IfOk made (λ answer. IfErr answer P)
  where_refusal P each (Ok (Ok plan)) is = tt
  where_refusal P each (Ok (Err refusal)) is = each refusal is
  where_refusal P each (Err none) is = tt

-- ---- plans by any name

abbrev pub AnyName : Type 0
AnyName = (s : System) (request : Request) (w : WindowFields) (plan : Plan) (name : List ℕ) → IsLegalPlanIn s request w plan → IsLegalPlanIn s (record request { name = name }) w (record plan { name = name })

module _ (any_name : AnyName) (s : System) (create : Create) (ways : ℕ) where
  abbrev want : Want
  want = want_of create ways

  to_line : (w : WindowFields) (set : List ℕ) → HasPlanIn s want w set → HasPlanOver s create ways w set
  to_line w set has = record {
    named = has.named;
    count = has.count;
    plan = record (has.plan) { name = create.name };
    legal = any_name s (asked want set) w has.plan create.name has.legal;
  }

  from_line : (w : WindowFields) (set : List ℕ) → HasPlanOver s create ways w set → HasPlanIn s want w set
  from_line w set has = record {
    named = has.named;
    count = has.count;
    plan = record (has.plan) { name = [] };
    legal = any_name s (request_for create set) w has.plan [] has.legal;
  }

  are_picked : (w : WindowFields) (set : List ℕ) → IsPicked s want w set → PlansFirst s want w set → ArePicked s create ways w set
  are_picked w set is plans = record {
    picked = is;
    has = to_line w set plans.has;
    first = λ earlier others before has. plans.first earlier others before (from_line earlier others has);
  }

  none_over : NothingPlans s want → HasNoPlanOver s create ways
  none_over none w set has = none w set (from_line w set has)

-- ---- what is known of planner and picker over one host

pub record IsPlanned (s : System) (request : Request) (plan : Plan) : Type 0 where
  pub legal : IsLegalPlan s request plan
  pub first : IsFirstPlan s request plan
  pub least : IsLeastPlan s request plan

pub record Known (s : System) : Type 0 where
  pub plans : (request : Request) (plan : Plan) → AreEndpoints s request → planned s request ≡ Ok plan → IsPlanned s request plan
  pub first : (request : Request) (fault : PlanFault) → AreEndpoints s request → planned s request ≡ Err fault → IsFirstPlanFault s request fault
  pub none : (request : Request) (fault : PlanFault) → AreEndpoints s request → planned s request ≡ Err fault → HasNoLegalPlan s request
  pub endpoints : (want : Want) (set : List ℕ) → picked s want ≡ Ok set → AreEndpoints s (asked want set)
  pub window : (want : Want) (set : List ℕ) → picked s want ≡ Ok set → (w : WindowFields) × IsPicked s want w set
  pub one : (want : Want) (w v : WindowFields) (set other : List ℕ) → IsPicked s want w set → IsPicked s want v other → w ≡ v
  pub fault : (want : Want) (fault : PickFault) → picked s want ≡ Err fault → TellsPickFault s want fault
  pub real : (want : Want) → picked s want ≢ Err picks.Memory
  pub nothing : (want : Want) (fault : PickFault) → picked s want ≡ Err fault → NothingPlans s want
  pub any_name : AnyName

-- a line that states ways states no granularity but by a code that is one
abbrev pub HasCode : Create → Type 0
HasCode create = (create.ways ≡ None) ⊎ StatesGranCode create

code_of : (create : Create) → HasCode create → (ways : ℕ) → create.ways ≡ Some ways → StatesGranCode create
code_of create (inl line) ways states = absurd (none-some ways (sym line ∙ states))
code_of create (inr code) ways states = code

-- what is picked has a legal plan
abbrev pub PicksPlan : System → Type 0
PicksPlan s = (want : Want) (w : WindowFields) (set : List ℕ) → IfSome want.gran (λ code. code ≤ 6) → picked s want ≡ Ok set → IsPicked s want w set → PlansFirst s want w set

module _ (s : System) (create : Create) (known : Known s) where
  by_name : AreEndpoints s (request_by_name s.nodes create)
  by_name = are_endpoints s.nodes create.endpoints

  of_set : (ways : ℕ) (set : List ℕ) → picked s (want_of create ways) ≡ Ok set → AreEndpoints s (request_for create set)
  of_set ways set at = known.endpoints (want_of create ways) set at

  -- ---- plans

  pub some_legal : (plan : Plan) → AsksForPlan s create (Ok plan) → (endpoints : List ℕ) × IsLegalPlan s (request_for create endpoints) plan
  some_legal plan is =
      plan_from s create plan is (λ line all at. (endpoints_named s.nodes create.endpoints, (known.plans (request_by_name s.nodes create) plan by_name at).legal))
      (λ ways set line at plans. (set, (known.plans (request_for create set) plan (of_set ways set at) plans).legal))

  named_plan : (plan : Plan) → create.ways ≡ None → first_unknown s.nodes create.endpoints ≡ None → planned s (request_by_name s.nodes create) ≡ Ok plan → IsPlanFor s create plan
  named_plan plan line all at =
      let told = known.plans (request_by_name s.nodes create) plan by_name at in
      record {
        endpoints = endpoints_named s.nodes create.endpoints;
        of_line = named line all;
        legal = told.legal;
        first = told.first;
        least = told.least;
        in_pick = λ ways w states is. absurd (none-some ways (sym line ∙ states));
        earliest = λ ways w others states has. absurd (none-some ways (sym line ∙ states));
      }

  module _ (law : PicksPlan s) (codes : HasCode create) where
    module _ (plan : Plan) (ways : ℕ) (set : List ℕ) (line : create.ways ≡ Some ways) (at : picked s (want_of create ways) ≡ Ok set) (plans : planned s (request_for create set) ≡ Ok plan) where
      abbrev sought : Want
      sought = want_of create ways

      told : IsPlanned s (request_for create set) plan
      told = known.plans (request_for create set) plan (of_set ways set at) plans

      own : (w : WindowFields) × IsPicked s sought w set
      own = known.window sought set at

      are : ArePicked s create ways own.0 set
      are = are_picked known.any_name s create ways own.0 set own.1 (law sought own.0 set (code_of create codes ways line) at own.1)

      -- the plan stands where the set has its first
      not_later : plan.found.window ≤ own.0.index
      not_later = told.least.window own.0 are.has.plan are.has.legal

      no_other : (w : WindowFields) (others : List ℕ) → HasPlanOver s create ways w others → own.0.index ≤ w.index
      no_other w others has =
          elim (cases_lt w.index own.0.index) [
            | inl early ↦ absurd (are.first w others early has)
            | inr late ↦ late
          ]

      its_own : HasPlanOver s create ways told.legal.0 set
      its_own = record { named = are.has.named; count = are.has.count; plan = plan; legal = told.legal.1 }

      stands : plan.found.window ≡ own.0.index
      stands =
          let low = no_other told.legal.0 set its_own in
          let at_window = told.legal.1.region.index in
          let high = not_later in
          omega (arith, low, at_window, high)

      same_ways : (other : ℕ) → create.ways ≡ Some other → other ≡ ways
      same_ways other also = same_Some other ways (sym also ∙ line)

      picked_plan : IsPlanFor s create plan
      picked_plan = record {
        endpoints = set;
        of_line = lines.picked ways own.0 set line are;
        legal = told.legal;
        first = told.first;
        least = told.least;
        in_pick = λ other w also is.
            let here = subst (λ (k : ℕ). IsPicked s (want_of create k) w set) (same_ways other also) is in
            stands ∙ ap (λ (v : WindowFields). v.index) (known.one sought own.0 w set set own.1 here);
        earliest = λ other w others also has.
            let low = no_other w others (subst (λ (k : ℕ). HasPlanOver s create k w others) (same_ways other also) has) in
            let here = stands in
            omega (arith, low, here);
      }

    pub plan_for : (plan : Plan) → AsksForPlan s create (Ok plan) → IsPlanFor s create plan
    plan_for plan is = plan_from s create plan is (named_plan plan) (λ ways set line at plans. picked_plan plan ways set line at plans)

  -- ---- refusals

  tells : (ways : ℕ) (fault : PickFault) → picked s (want_of create ways) ≡ Err fault → TellsNoPick (want_of create ways) (pick_reply fault)
  tells ways fault at = go fault at (known.fault (want_of create ways) fault at)
    where
      go : (fault : PickFault) → picked s (want_of create ways) ≡ Err fault → TellsPickFault s (want_of create ways) fault → TellsNoPick (want_of create ways) (pick_reply fault)
      go (picks.Ways n) at of = subst (TellsNoPick (want_of create ways)) (ap (λ (k : ℕ). replies.Refused (faults.Ways k)) (sym of.0)) (no_ways of.1)
      go picks.Size at of = no_size of.0 of.1
      go picks.NoSet at of = no_set of.0 of.1
      go picks.Memory at of = absurd (known.real (want_of create ways) at)

  -- what is picked has a legal plan, so that no fault is told of it
  none_of_set : PicksPlan s → StatesGranCode create → (ways : ℕ) (set : List ℕ) (fault : PlanFault) → picked s (want_of create ways) ≡ Ok set → planned s (request_for create set) ≡ Err fault → ⊥
  none_of_set law code ways set fault at is =
      let own = known.window (want_of create ways) set at in
      let has = to_line known.any_name s create ways own.0 set (law (want_of create ways) own.0 set code at own.1).has in
      known.none (request_for create set) fault (of_set ways set at) is has.plan (own.0, has.legal)

  pub refusal_of : PicksPlan s → HasCode create → (refusal : Reply) → AsksForPlan s create (Err refusal) → IsRefusal s create refusal
  refusal_of law codes refusal is =
      refusal_from s create (IsRefusal s create) refusal is (λ name line at. unknown name line at)
      (λ fault line all at. faulty fault line all (known.none (request_by_name s.nodes create) fault by_name at) (known.first (request_by_name s.nodes create) fault by_name at))
      (λ ways fault line at. not_picked ways (pick_reply fault) line (none_over known.any_name s create ways (known.nothing (want_of create ways) fault at)) (tells ways fault at))
      (λ ways set fault line at plans. absurd (none_of_set law (code_of create codes ways line) ways set fault at plans))

-- ---- a plan or none

module _ (s : System) (create : Create) where
  plan_over_line : (endpoints : List ℕ) → AreEndpointsOf s create endpoints → (plan : Plan) → IsLegalPlan s (request_for create endpoints) plan → HasPlan s create
  plan_over_line endpoints (named line all) plan legal = over_named plan line all legal
  plan_over_line endpoints (lines.picked ways w set line are) plan legal = over_some ways w set line are.has

  pub has_plan : (plan : Plan) → IsPlanFor s create plan → HasPlan s create
  has_plan plan for = plan_over_line for.endpoints for.of_line plan for.legal

  pub has_no_plan : (refusal : Reply) → IsRefusal s create refusal → HasNoPlan s create
  has_no_plan refusal (unknown name line at) = of_unknown name line at
  has_no_plan refusal (faulty fault line all none first) = none_over_named line none
  has_no_plan refusal (not_picked ways reply line none why) = none_over_any ways line none

  -- a line does not both name endpoints and state ways
  one_form : {P : Type 0} (ways : ℕ) → create.ways ≡ None → create.ways ≡ Some ways → P
  one_form ways line states = absurd (none-some ways (sym line ∙ states))

  pub not_both_ways : HasPlan s create → HasNoPlan s create → ⊥
  not_both_ways (over_named plan line all legal) (of_unknown name names at) = none-some name (sym all ∙ at)
  not_both_ways (over_named plan line all legal) (none_over_named names none) = none plan legal
  not_both_ways (over_named plan line all legal) (none_over_any ways states none) = one_form ways line states
  not_both_ways (over_some ways w set states has) (of_unknown name line at) = one_form ways line states
  not_both_ways (over_some ways w set states has) (none_over_named line none) = one_form ways line states
  not_both_ways (over_some ways w set states has) (none_over_any other also none) =
      none w set (subst (λ (k : ℕ). HasPlanOver s create k w set) (same_Some ways other (sym states ∙ also)) has)
