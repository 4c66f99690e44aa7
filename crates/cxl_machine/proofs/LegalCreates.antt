-- The plans on which the creates of a machine rest are legal, and the first and least of their lines.
use Rattle.std.proofs.Common.{◌≡◌, ◌⊎◌, ℕ, None, List, Result, Ok, Err, Option, Some, refl}
use Rattle.cxl_script.specs.Grammar.{StatesGranCode}
use Rattle.cxl_script.specs.declared.command.Command.{Command}
use Rattle.cxl_script.specs.declared.command.Command.TheVariants as commands
use Rattle.cxl_script.specs.declared.command.Create.{Create}
use Rattle.cxl_model.specs.declared.plan.Plan.{Plan}
use Rattle.cxl_model.specs.Accepted.{IsAccepted}
use Rattle.cxl_model.specs.Plans.{IsLegalPlan}
use Rattle.cxl_model.specs.System.{System, IsSystem}
use Rattle.cxl_legal.specs.Used.{HasBytePorts}
use Rattle.cxl_reply.specs.declared.reply.Reply.{Reply}
use Rattle.cxl_request.specs.Plans.{IsPlanFor}
use Rattle.cxl_request.specs.Requests.{request_for, AsksForPlan}
use Rattle.cxl_machine.specs.Machine.{RegionJob, Machine}
use Rattle.cxl_machine.specs.Jobs.{create_job}
use Rattle.cxl_machine.specs.Requests.{AsksUnless, AsksCreate, job_of_plan, refusal_of_create}
use Rattle.cxl_machine.specs.Creating.{AsksLegally, CreatesLegally}
use Rattle.cxl_machine.specs.Sound.{IsMachine}

same_job : (job other : RegionJob) → ◌≡◌ {A = Result RegionJob Reply} (Ok job) (Ok other) → job ≡ other
same_job job other e = cc

not_refused : (job : RegionJob) (refusal : Reply) → ◌≡◌ {A = Result RegionJob Reply} (Ok job) (Err refusal) → ⊥
not_refused job refusal e = cc

-- the plan of a job that is asked for
pub record IsOfPlan (m : Machine) (create : Create) (job : RegionJob) : Type 0 where
  pub plan : Plan
  pub answered : AsksForPlan m.settled create (Ok plan)
  pub made : job ≡ create_job m.settled plan

module _ (m : Machine) (create : Create) (job : RegionJob) where
  of_answer : (answer : Result Plan Reply) → AsksForPlan m.settled create answer → Ok job ≡ job_of_plan m answer → IsOfPlan m create job
  of_answer (Ok plan) is made = record { plan = plan; answered = is; made = same_job job (create_job m.settled plan) made }
  of_answer (Err refusal) is made = absurd (not_refused job refusal made)

  asks_unless : (o : Option Reply) → AsksUnless m create o (Ok job) → IsOfPlan m create job
  asks_unless (Some refusal) asks = absurd (not_refused job refusal asks)
  asks_unless None asks = of_answer asks.0 asks.1 asks.2

  pub plan_of_job : AsksCreate m create (Ok job) → IsOfPlan m create job
  plan_of_job asks = asks_unless (refusal_of_create m create) asks

-- what is known of the plan that a line is answered
abbrev pub LegalLaw : Type 0
LegalLaw = (s : System) (create : Create) (plan : Plan) → IsSystem s → HasBytePorts s.nodes → IsAccepted s → AsksForPlan s create (Ok plan) → (endpoints : List ℕ) × IsLegalPlan s (request_for create endpoints) plan

abbrev pub PlanLaw : Type 0
PlanLaw = (s : System) (create : Create) (plan : Plan) → IsSystem s → HasBytePorts s.nodes → IsAccepted s → (create.ways ≡ None) ⊎ StatesGranCode create → AsksForPlan s create (Ok plan) → IsPlanFor s create plan

pub plan_for_job : PlanLaw → (m : Machine) → IsMachine m → (create : Create) (job : RegionJob) → (create.ways ≡ None) ⊎ StatesGranCode create → AsksCreate m create (Ok job) → (plan : Plan) × IsPlanFor m.settled create plan × (job ≡ create_job m.settled plan)
plan_for_job law m is create job codes asks =
    let own = plan_of_job m create job asks in
    (own.plan, law m.settled create own.plan is.settled.system is.settled.ports is.settled.accepted codes own.answered, own.made)

module _ (law : LegalLaw) (m : Machine) (is : IsMachine m) where
  asks_legally : (create : Create) → AsksLegally m create
  asks_legally create job asks =
      let own = plan_of_job m create job asks in
      let legal = law m.settled create own.plan is.settled.system is.settled.ports is.settled.accepted own.answered in
      record { request = request_for create legal.0; plan = own.plan; legal = legal.1; named = refl; made = own.made }

  pub creates_legally : (command : Command) → CreatesLegally m command
  creates_legally (commands.Create create) = asks_legally create
  creates_legally (commands.BeginCreate create) = asks_legally create
  creates_legally other = tt
