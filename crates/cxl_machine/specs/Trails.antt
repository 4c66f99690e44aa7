-- Which words a command may write, in order (this project's rules).
use Rattle.std.specs.Prelude.{◌≡◌, ℕ, ◌+◌, ◌<◌, ◌≤◌, min, List, [], ◌++◌, Option, Some, None, Result, Ok, Err}
use Rattle.cxl_bus.specs.declared.sent.Sent.{Sent}
use Rattle.cxl_bus.specs.Trail.{blocks_sent}
use Rattle.cxl_script.specs.declared.command.Command.{Command}
use Rattle.cxl_script.specs.declared.command.Command.TheVariants as commands
use Rattle.cxl_script.specs.declared.command.Create.{Create}
use Rattle.cxl_apply.specs.WordsSent.{words_made, words_taken_back}
use Rattle.cxl_reply.specs.declared.reply.Reply.{Reply}
use Rattle.cxl_machine.specs.Machine.{RegionJob, Machine, image_of}
use Rattle.cxl_machine.specs.Jobs.{total_of, at_done, begun}
use Rattle.cxl_machine.specs.Outcomes.{BusOutcome, NoFault, Undone, LeftPending, ReadFailed}
use Rattle.cxl_machine.specs.Requests.{AsksCreate, asked_release}
use Rattle.cxl_machine.specs.Sound.{IsMachine}

-- ---- parts of a job

-- the writes of a job behind so many are made in order, up to so many
abbrev pub forward : RegionJob → ℕ → ℕ → List Sent
forward job before upto = words_made job.writes before upto

-- and those up to so many are taken back, the last one first
abbrev pub backward : RegionJob → ℕ → ℕ → List Sent
backward job before upto = words_taken_back job.writes before upto

-- ---- whole jobs

-- The first d writes are made, and of these all but so many are taken back, where not all were made.
pub record GoesBackTo (job : RegionJob) (kept : ℕ) (trail : List Sent) : Type 0 where
  pub turn : ℕ
  pub some : kept ≤ turn
  pub part : turn < total_of job
  pub sent : trail ≡ forward job 0 turn ++ backward job kept turn

-- a whole job: all its writes, or the first ones and what takes them back
abbrev pub SendsWhole : RegionJob → BusOutcome → List Sent → Type 0
SendsWhole job NoFault trail = trail ≡ forward job 0 (total_of job)
SendsWhole job Undone trail = GoesBackTo job 0 trail
SendsWhole job (LeftPending done) trail = GoesBackTo job done trail
SendsWhole job ReadFailed trail = ⊥

-- what is refused sends no word
abbrev pub SendsAsked : Result RegionJob Reply → BusOutcome → List Sent → Type 0
SendsAsked (Ok job) outcome trail = SendsWhole job outcome trail
SendsAsked (Err refusal) outcome trail = trail ≡ []

-- the words of a create
abbrev pub SendsCreate : Machine → Create → BusOutcome → List Sent → Type 0
SendsCreate m create outcome trail = (asked : Result RegionJob Reply) × AsksCreate m create asked × SendsAsked asked outcome trail

-- ---- steps

-- the words of steps
abbrev pub SendsSteps : RegionJob → ℕ → BusOutcome → List Sent → Type 0
SendsSteps job steps NoFault trail = trail ≡ forward job job.done (min (job.done + steps) (total_of job))
SendsSteps job steps Undone trail = ⊥
SendsSteps job steps (LeftPending done) trail = trail ≡ forward job job.done done
SendsSteps job steps ReadFailed trail = ⊥

-- the words of an abort
abbrev pub SendsAbort : RegionJob → BusOutcome → List Sent → Type 0
SendsAbort job NoFault trail = trail ≡ backward job 0 job.done
SendsAbort job Undone trail = ⊥
SendsAbort job (LeftPending done) trail = trail ≡ backward job done job.done
SendsAbort job ReadFailed trail = ⊥

-- nothing is written where no job is pending
abbrev pub SendsPending : Option RegionJob → List Sent → (RegionJob → Type 0) → Type 0
SendsPending None trail sends = trail ≡ []
SendsPending (Some job) trail sends = sends job

-- ---- each command

-- Which words a command may write. A whole job all its writes in order; one that is undone the first so many, and then what
-- takes them back, last first; one that is left pending the same, back to the writes that are left. A step the writes that
-- it makes, an abort those that it takes back, and every other command none.
abbrev pub TrailOf : Machine → Command → BusOutcome → List Sent → Type 0
TrailOf m (commands.Create create) outcome trail = SendsCreate m create outcome trail
TrailOf m (commands.Destroy name) outcome trail = SendsAsked (asked_release m name) outcome trail
TrailOf m (commands.Step steps) outcome trail = SendsPending m.job trail (λ job. SendsSteps job steps outcome trail)
TrailOf m commands.Abort outcome trail = SendsPending m.job trail (λ job. SendsAbort job outcome trail)
TrailOf m other outcome trail = trail ≡ []

-- ---- between two words of a command

-- the job on which a command works, and the machine at which it is pending
abbrev pub WorksOn : Machine → Command → RegionJob → Machine → Type 0
WorksOn m (commands.Create create) job at = AsksCreate m create (Ok job) × (at ≡ begun job m)
WorksOn m (commands.Destroy name) job at = (asked_release m name ≡ Ok job) × (at ≡ begun job m)
WorksOn m (commands.Step steps) job at = (m.job ≡ Some job) × (at ≡ m)
WorksOn m commands.Abort job at = (m.job ≡ Some job) × (at ≡ m)
WorksOn m other job at = ⊥

-- These first words of a command leave the image of a machine with its job pending, and so many of the job's writes made.
pub record IsOnTheWay (m : Machine) (command : Command) (words : List Sent) : Type 0 where
  pub job : RegionJob
  pub at : Machine
  pub done : ℕ
  pub works : WorksOn m command job at
  pub part : done < total_of job
  pub machine : IsMachine (at_done job done at)
  pub holds : blocks_sent (image_of m) words ≡ image_of (at_done job done at)
