-- Which plan a create line has, and why it has none (this project's rules).
use Rattle.std.specs.Prelude.{◌≡◌, ℕ, ◌<◌, ◌≤◌, true, false, List, length, All, Some, None}
use Rattle.cxl_enc.specs.Codes.{is_ways}
use Rattle.cxl_model.specs.Plans.{IsLegalPlanIn, IsLegalPlan}
use Rattle.cxl_model.specs.System.{System}
use Rattle.cxl_model.specs.declared.plan.Plan.{Plan}
use Rattle.cxl_model.specs.declared.plan.PlanFault.{PlanFault}
use Rattle.cxl_model.specs.declared.plan.PlanFault.TheVariants as faults
use Rattle.cxl_model.specs.declared.request.Request.{Request}
use Rattle.cxl_pick.specs.Picking.{IsWantedSize, IsPicked}
use Rattle.cxl_pick.specs.declared.want.Want.{Want}
use Rattle.cxl_plan.specs.Faults.{IsFirstPlanFault, IsFirstPlan, IsLeastPlan}
use Rattle.cxl_reply.specs.declared.reply.Reply.{Reply}
use Rattle.cxl_reply.specs.declared.reply.Reply.TheVariants as replies
use Rattle.cxl_script.specs.declared.command.Create.{Create}
use Rattle.cxl_topo.specs.Tree.{is_endpoint_at}
use Rattle.cxl_window.specs.Fields.{WindowFields}
use Rattle.cxl_request.specs.Endpoints.{first_unknown, endpoints_named}
use Rattle.cxl_request.specs.Requests.{request_for, request_by_name, want_of}

-- ---- sets of so many endpoints

-- a set of so many endpoints has a legal plan in this window for what the line asks
pub record HasPlanOver (s : System) (create : Create) (ways : ℕ) (w : WindowFields) (endpoints : List ℕ) : Type 0 where
  pub named : All (λ m. is_endpoint_at s.nodes m ≡ true) endpoints
  pub count : length endpoints ≡ ways
  pub plan : Plan
  pub legal : IsLegalPlanIn s (request_for create endpoints) w plan

-- no set of so many endpoints has a legal plan in any window
abbrev pub HasNoPlanOver : System → Create → ℕ → Type 0
HasNoPlanOver s create ways = (w : WindowFields) (endpoints : List ℕ) → HasPlanOver s create ways w endpoints → ⊥

-- They are picked: in the first window in which each target bridge gives something. They have a legal plan there, and no set of so many endpoints has one
-- in an earlier window.
pub record ArePicked (s : System) (create : Create) (ways : ℕ) (w : WindowFields) (endpoints : List ℕ) : Type 0 where
  pub picked : IsPicked s (want_of create ways) w endpoints
  pub has : HasPlanOver s create ways w endpoints
  pub first : (earlier : WindowFields) (others : List ℕ) → earlier.index < w.index → HasPlanOver s create ways earlier others → ⊥

-- ---- the plan of a line

-- those that the line names, where each name is an endpoint's; or, where it states ways, those that are picked
pub data AreEndpointsOf (s : System) (create : Create) : List ℕ → Type 0 where
  named : create.ways ≡ None → first_unknown s.nodes create.endpoints ≡ None → AreEndpointsOf s create (endpoints_named s.nodes create.endpoints)
  picked : (ways : ℕ) (w : WindowFields) (endpoints : List ℕ) → create.ways ≡ Some ways → ArePicked s create ways w endpoints → AreEndpointsOf s create endpoints

-- The plan is legal over the line's endpoints: the one that is stated in the first window that takes them, at the least base there.
pub record IsPlanFor (s : System) (create : Create) (plan : Plan) : Type 0 where
  pub endpoints : List ℕ
  pub of_line : AreEndpointsOf s create endpoints
  pub legal : IsLegalPlan s (request_for create endpoints) plan
  pub first : IsFirstPlan s (request_for create endpoints) plan
  -- over these endpoints no legal plan stands in an earlier window, nor at a lower base in the same one
  pub least : IsLeastPlan s (request_for create endpoints) plan
  -- where the line states ways, the plan stands in the window of the pick, and no set of so many endpoints has a legal plan in an earlier one
  pub in_pick : (ways : ℕ) (w : WindowFields) → create.ways ≡ Some ways → IsPicked s (want_of create ways) w endpoints → plan.found.window ≡ w.index
  pub earliest : (ways : ℕ) (w : WindowFields) (others : List ℕ) → create.ways ≡ Some ways → HasPlanOver s create ways w others → plan.found.window ≤ w.index

-- ---- the refusal of a line

-- no plan is legal
abbrev pub HasNoLegalPlan : System → Request → Type 0
HasNoLegalPlan s request = (plan : Plan) → IsLegalPlan s request plan → ⊥

-- no region has so many ways, or none of so many has the size, or neither is so and nothing can be picked
pub data TellsNoPick (want : Want) : Reply → Type 0 where
  no_ways : is_ways want.ways ≡ false → TellsNoPick want (replies.Refused (faults.Ways want.ways))
  no_size : is_ways want.ways ≡ true → (IsWantedSize want → ⊥) → TellsNoPick want (replies.Refused faults.Size)
  no_set : is_ways want.ways ≡ true → IsWantedSize want → TellsNoPick want replies.NoSet

-- the first name that is no endpoint's, or the first fault of a request that has no legal plan; or, where the line states ways, why no set of so many
-- endpoints has one
pub data IsRefusal (s : System) (create : Create) : Reply → Type 0 where
  unknown : (name : List ℕ) → create.ways ≡ None → first_unknown s.nodes create.endpoints ≡ Some name → IsRefusal s create (replies.NoEndpoint name)
  faulty : (fault : PlanFault) → create.ways ≡ None → first_unknown s.nodes create.endpoints ≡ None → HasNoLegalPlan s (request_by_name s.nodes create)
      → IsFirstPlanFault s (request_by_name s.nodes create) fault → IsRefusal s create (replies.Refused fault)
  not_picked : (ways : ℕ) (reply : Reply) → create.ways ≡ Some ways → HasNoPlanOver s create ways → TellsNoPick (want_of create ways) reply
      → IsRefusal s create reply

-- ---- when a line has a plan

-- there is a legal plan over the endpoints that the line names, each name being one's; or, where it states ways, over some set of so many endpoints
pub data HasPlan (s : System) (create : Create) : Type 0 where
  over_named : (plan : Plan) → create.ways ≡ None → first_unknown s.nodes create.endpoints ≡ None → IsLegalPlan s (request_by_name s.nodes create) plan → HasPlan s create
  over_some : (ways : ℕ) (w : WindowFields) (endpoints : List ℕ) → create.ways ≡ Some ways → HasPlanOver s create ways w endpoints → HasPlan s create

-- a name is no endpoint's, or no plan is legal over the named endpoints; or, where the line states ways, none over any set of so many
pub data HasNoPlan (s : System) (create : Create) : Type 0 where
  of_unknown : (name : List ℕ) → create.ways ≡ None → first_unknown s.nodes create.endpoints ≡ Some name → HasNoPlan s create
  none_over_named : create.ways ≡ None → HasNoLegalPlan s (request_by_name s.nodes create) → HasNoPlan s create
  none_over_any : (ways : ℕ) → create.ways ≡ Some ways → HasNoPlanOver s create ways → HasNoPlan s create
