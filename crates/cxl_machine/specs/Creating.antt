-- That the plans on which the creates of a machine rest are legal, and why a create is refused (this project's rules).
use Rattle.std.specs.Prelude.{◌≡◌, Ok, ⊤}
use Rattle.cxl_script.specs.declared.command.Command.{Command}
use Rattle.cxl_script.specs.declared.command.Command.TheVariants as commands
use Rattle.cxl_script.specs.declared.command.Create.{Create}
use Rattle.cxl_model.specs.declared.plan.Plan.{Plan}
use Rattle.cxl_model.specs.declared.plan.PlanFault.{PlanFault}
use Rattle.cxl_model.specs.declared.request.Request.{Request}
use Rattle.cxl_model.specs.Plans.{IsLegalPlan}
use Rattle.cxl_plan.specs.Faults.{IsFirstPlanFault}
use Rattle.cxl_reply.specs.declared.reply.Reply.{Reply}
use Rattle.cxl_reply.specs.declared.reply.Reply.TheVariants as replies
use Rattle.cxl_machine.specs.Machine.{RegionJob, Machine}
use Rattle.cxl_machine.specs.Jobs.{create_job}
use Rattle.cxl_machine.specs.Requests.{AsksCreate}

-- the job is that of a legal plan over the settled image, under the name of the line
pub record IsLegalJob (m : Machine) (create : Create) (job : RegionJob) : Type 0 where
  pub request : Request
  pub plan : Plan
  pub legal : IsLegalPlan m.settled request plan
  pub named : request.name ≡ create.name
  pub made : job ≡ create_job m.settled plan

-- each job that a create line asks for is one
abbrev pub AsksLegally : Machine → Create → Type 0
AsksLegally m create = (job : RegionJob) → AsksCreate m create (Ok job) → IsLegalJob m create job

-- what is asked for is the job of a legal plan, under the name of the line, where the command makes a region
abbrev pub CreatesLegally : Machine → Command → Type 0
CreatesLegally m (commands.Create create) = AsksLegally m create
CreatesLegally m (commands.BeginCreate create) = AsksLegally m create
CreatesLegally m other = ⊤

-- ---- a create that is refused

-- The refusal tells the first fault of the request, and no plan for it is legal.
pub record IsRefusedPlan (m : Machine) (request : Request) (refusal : Reply) : Type 0 where
  pub fault : PlanFault
  pub told : refusal ≡ replies.Refused fault
  pub first : IsFirstPlanFault m.settled request fault
  pub none : (plan : Plan) → IsLegalPlan m.settled request plan → ⊥
