-- What a create line asks of the planner and of the picker, and what it is answered before any rule of a session comes in
-- (this project's rules).
use Rattle.std.specs.Prelude.{◌≡◌, ℕ, List, Option, Some, None, Result, Ok, Err}
use Rattle.cxl_model.specs.System.{System}
use Rattle.cxl_model.specs.declared.plan.Plan.{Plan}
use Rattle.cxl_model.specs.declared.plan.PlanFault.{PlanFault}
use Rattle.cxl_model.specs.declared.plan.PlanFault.TheVariants as faults
use Rattle.cxl_model.specs.declared.request.Request.{Request}
use Rattle.cxl_pick.specs.Picked.{picked}
use Rattle.cxl_pick.specs.declared.fault.PickFault.{PickFault}
use Rattle.cxl_pick.specs.declared.fault.PickFault.TheVariants as picks
use Rattle.cxl_pick.specs.declared.want.Want.{Want}
use Rattle.cxl_plan.specs.Planned.{planned}
use Rattle.cxl_reply.specs.declared.reply.Reply.{Reply}
use Rattle.cxl_reply.specs.declared.reply.Reply.TheVariants as replies
use Rattle.cxl_script.specs.declared.command.Create.{Create}
use Rattle.cxl_topo.specs.declared.node.Node.{Node}
use Rattle.cxl_request.specs.Endpoints.{first_unknown, endpoints_named}

-- ---- what is asked for

-- the request for these endpoints
abbrev pub request_for : Create → List ℕ → Request
request_for create endpoints =
    record { name = create.name; kind = create.kind; size = create.size; gran = create.gran; endpoints = endpoints }

-- that for the endpoints that the line names
abbrev pub request_by_name : List Node → Create → Request
request_by_name nodes create = request_for create (endpoints_named nodes create.endpoints)

-- so many endpoints, whichever they are
abbrev pub want_of : Create → ℕ → Want
want_of create ways = record { kind = create.kind; size = create.size; gran = create.gran; ways = ways }

-- ---- refusals

-- a fault of the planner as a refusal
abbrev pub plan_or_refusal : Result Plan PlanFault → Result Plan Reply
plan_or_refusal (Ok plan) = Ok plan
plan_or_refusal (Err fault) = Err (replies.Refused fault)

-- and a fault of the picker; that no set of so many endpoints has a plan has a reply of its own
abbrev pub pick_reply : PickFault → Reply
pick_reply (picks.Ways ways) = replies.Refused (faults.Ways ways)
pick_reply picks.Size = replies.Refused faults.Size
pick_reply picks.NoSet = replies.NoSet
pick_reply picks.Memory = replies.Refused faults.Memory

-- ---- the answer

-- the plan over these endpoints
abbrev pub plan_over : System → Create → List ℕ → Result Plan Reply
plan_over s create endpoints = plan_or_refusal (planned s (request_for create endpoints))

-- over those that the line names, where each name is an endpoint's
abbrev pub plan_unless_unknown : System → Create → Option (List ℕ) → Result Plan Reply
plan_unless_unknown s create (Some name) = Err (replies.NoEndpoint name)
plan_unless_unknown s create None = plan_over s create (endpoints_named s.nodes create.endpoints)

-- over those that are picked, where some are
abbrev pub plan_over_pick : System → Create → Result (List ℕ) PickFault → Result Plan Reply
plan_over_pick s create (Ok endpoints) = plan_over s create endpoints
plan_over_pick s create (Err fault) = Err (pick_reply fault)

-- a line that states ways names no endpoints: so many are picked
abbrev pub plan_of_line : System → Create → Option ℕ → Result Plan Reply
plan_of_line s create None = plan_unless_unknown s create (first_unknown s.nodes create.endpoints)
plan_of_line s create (Some ways) = plan_over_pick s create (picked s (want_of create ways))

-- the plan that a create line asks for, or why there is none, before any rule of a session comes in
abbrev pub asked_plan : System → Create → Result Plan Reply
asked_plan s create = plan_of_line s create create.ways

-- the line is answered so
abbrev pub AsksForPlan : System → Create → Result Plan Reply → Type 0
AsksForPlan s create answer = answer ≡ asked_plan s create
