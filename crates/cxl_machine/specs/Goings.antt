-- How the bus can let a command of a machine go: by what is asked for, and by the job that is pending (this project's rules).
use Rattle.std.specs.Prelude.{◌≡◌, ℕ, Option, Some, None, Result, Ok, Err, IsSome, ⊤}
use Rattle.cxl_script.specs.declared.command.Command.{Command}
use Rattle.cxl_script.specs.declared.command.Command.TheVariants as commands
use Rattle.cxl_reply.specs.declared.reply.Reply.{Reply}
use Rattle.cxl_machine.specs.Machine.{Live, RegionJob, Machine, live_named}
use Rattle.cxl_machine.specs.Jobs.{total_of}
use Rattle.cxl_machine.specs.Outcomes.{BusOutcome, NoFault, Undone, LeftPending, ReadFailed, IsLeftOfWhole, IsLeftOfSteps, IsLeftOfAbort}
use Rattle.cxl_machine.specs.Requests.{AsksCreate, asked_release}

-- a whole job of so many writes is done, undone, or left pending with some of them made
abbrev pub GoesWhole : ℕ → BusOutcome → Type 0
GoesWhole total NoFault = ⊤
GoesWhole total Undone = ⊤
GoesWhole total (LeftPending done) = IsLeftOfWhole total done
GoesWhole total ReadFailed = ⊥

-- what is refused meets no fault
abbrev pub GoesAsked : Result RegionJob Reply → BusOutcome → Type 0
GoesAsked (Ok job) outcome = GoesWhole (total_of job) outcome
GoesAsked (Err refusal) outcome = outcome ≡ NoFault

-- steps are done, or the job is left pending with fewer made
abbrev pub GoesSteps : RegionJob → ℕ → BusOutcome → Type 0
GoesSteps job steps NoFault = ⊤
GoesSteps job steps Undone = ⊥
GoesSteps job steps (LeftPending done) = IsLeftOfSteps job.done steps (total_of job) done
GoesSteps job steps ReadFailed = ⊥

-- a job is undone whole, or left pending with some write that is not taken back
abbrev pub GoesBack : RegionJob → BusOutcome → Type 0
GoesBack job NoFault = ⊤
GoesBack job Undone = ⊥
GoesBack job (LeftPending done) = IsLeftOfAbort job.done done
GoesBack job ReadFailed = ⊥

-- with no job pending, no fault is met
abbrev pub GoesPending : Option RegionJob → BusOutcome → (RegionJob → Type 0) → Type 0
GoesPending None outcome goes = outcome ≡ NoFault
GoesPending (Some job) outcome goes = goes job

-- registers are read where there is a region to show
abbrev pub GoesRead : Option Live → BusOutcome → Type 0
GoesRead region NoFault = ⊤
GoesRead region Undone = ⊥
GoesRead region (LeftPending done) = ⊥
GoesRead region ReadFailed = IsSome region

-- how the bus can let the command of this machine go
abbrev pub CanGo : Machine → Command → BusOutcome → Type 0
CanGo m (commands.Create create) outcome = (asked : Result RegionJob Reply) × AsksCreate m create asked × GoesAsked asked outcome
CanGo m (commands.Destroy name) outcome = GoesAsked (asked_release m name) outcome
CanGo m (commands.Step steps) outcome = GoesPending m.job outcome (λ job. GoesSteps job steps outcome)
CanGo m commands.Abort outcome = GoesPending m.job outcome (λ job. GoesBack job outcome)
CanGo m (commands.Show name) outcome = GoesRead (live_named m name) outcome
CanGo m other outcome = outcome ≡ NoFault
