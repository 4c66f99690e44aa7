-- What is asked for before a create begins.
use Rattle.std.specs.Prelude.{◌≡◌, Option, Some, None, Result, Ok, Err}
use Rattle.cxl_script.specs.declared.command.Create.{Create}
use Rattle.cxl_reply.specs.declared.reply.Reply.{Reply}
use Rattle.cxl_regs.specs.Reading.{decoder_ways}
use Rattle.cxl_walk.specs.declared.own.Own.{Own}
use Rattle.cxl_model.specs.declared.plan.Plan.{Plan}
use Rattle.cxl_model.specs.declared.plan.Row.{Row}
use Rattle.cxl_model.specs.Plans.{with_rows}
use Rattle.cxl_model.specs.System.{System}
use Rattle.cxl_machine.specs.Machine.{Machine}
use Rattle.cxl_machine.specs.Jobs.{create_job, create_writes}
use Rattle.cxl_machine.specs.Requests.{busy, name_taken, no_endpoint, regions_full, refusal_of_create, AsksUnrefused, AsksCreate}
use Rattle.cxl_session.specs.declared.pending.PendingJob.{PendingJob}
use Rattle.cxl_session.specs.Inside.{job_fields}
use Rattle.cxl_session.specs.State.{JobFields}
use Rattle.cxl_session.specs.Standing.{IsKeptIn, IsJobFor}

-- the decoder that a row will be
abbrev pub own_of : Row → Own
own_of row = record { node = row.node; index = row.index; ways = decoder_ways row.decoder }

-- a plan is sought: nothing stands against it
pub record IsSought (m : Machine) (create : Create) : Type 0 where
  pub idle : busy m ≡ None
  pub free : name_taken m create.name ≡ None
  pub known : no_endpoint m create.endpoints ≡ None
  pub room : regions_full m ≡ None

-- what is refused before a plan is sought
abbrev pub IsEarlyRefusal : Machine → Create → Option Reply → Type 0
IsEarlyRefusal m create (Some refusal) = refusal_of_create m create ≡ Some refusal
IsEarlyRefusal m create None = IsSought m create

-- the plan that is sought where nothing stands against it, or why there is none
abbrev pub IsAskedPlan : Machine → Create → Result Plan Reply → Type 0
IsAskedPlan m create (Ok plan) = AsksUnrefused m create (Ok (create_job m.settled plan))
IsAskedPlan m create (Err refusal) = AsksUnrefused m create (Err refusal)

-- the create of a plan over an image: no write is made, and the routes of its region are those where all rows are committed
pub record IsPrepared (s : System) (plan : Plan) (own : JobFields) : Type 0 where
  pub place : own.place ≡ None
  pub name : own.name ≡ plan.name
  pub found : own.found ≡ plan.found
  pub writes : own.writes ≡ create_writes s plan.rows
  pub done : own.done ≡ 0
  pub kept : IsKeptIn (with_rows s plan.rows) plan.found own.kept

-- the create of a plan that is asked for, as a session keeps it
pub record IsKeptCreate (m : Machine) (create : Create) (own : JobFields) : Type 0 where
  pub plan : Plan
  pub asked : AsksCreate m create (Ok (create_job m.settled plan))
  pub same : IsJobFor m own (create_job m.settled plan)

-- that, or why it is refused
abbrev pub IsAskedCreate : Machine → Create → Result PendingJob Reply → Type 0
IsAskedCreate m create (Ok pending) = IsKeptCreate m create (job_fields pending)
IsAskedCreate m create (Err refusal) = AsksCreate m create (Err refusal)
