-- Answers to commands that make and end regions, at once or write by write (this project's rules).
use Rattle.std.specs.Prelude.{◌≡◌, ℕ, ◌+◌, nat_le, if◌then◌else◌, Option, Some, None, Result, Ok, Err}
use Rattle.cxl_script.specs.declared.command.Create.{Create}
use Rattle.cxl_reply.specs.declared.reply.Reply.{Reply}
use Rattle.cxl_reply.specs.declared.reply.Reply.TheVariants as replies
use Rattle.cxl_reply.specs.declared.details.Named.{Named}
use Rattle.cxl_machine.specs.Machine.{Live, RegionJob, JobKind, Creates, Releases, Machine}
use Rattle.cxl_machine.specs.Jobs.{total_of, at_done, begun, finished, undone}
use Rattle.cxl_machine.specs.Outcomes.{BusOutcome, NoFault, Undone, LeftPending, ReadFailed, IsLeftOfWhole, IsLeftOfSteps, IsLeftOfAbort}
use Rattle.cxl_machine.specs.Requests.{AsksCreate}
use Rattle.cxl_machine.specs.Replies.{Answer, stays, becomes, Gives}

-- ---- the replies of a job

-- what is told of a region
abbrev pub named : Live → Named
named region = record {
  name = region.name;
  window = region.found.window;
  base = region.found.base;
  size = region.found.size;
  gran = region.found.gran;
  ways = region.found.ways;
}

-- the region is made, or gone
abbrev pub ended_reply : RegionJob → JobKind → Reply
ended_reply job (Creates rows) = replies.Created (named job.region)
ended_reply job (Releases place) = replies.Destroyed job.region.name

-- a job that is begun, with the number of its writes
abbrev pub begun_reply : RegionJob → Reply
begun_reply job = replies.Begun record { name = job.region.name; writes = total_of job }

-- a job that the bus left pending, with so many writes made
abbrev pub pending_reply : RegionJob → ℕ → Reply
pending_reply job done = replies.BusPending record { name = job.region.name; done = done; total = total_of job }

-- ---- machines after part of a job, and after all of it

-- the job is done
abbrev pub ended_answer : RegionJob → Machine → Answer
ended_answer job m = becomes (finished job m) (ended_reply job job.kind)

-- the job is left pending
abbrev pub pending_answer : RegionJob → ℕ → Machine → Answer
pending_answer job done m = becomes (at_done job done m) (pending_reply job done)

-- ---- create and destroy

-- all writes of the job are made; or it is undone; or it is left pending
abbrev pub CarriesOutWhole : Machine → RegionJob → BusOutcome → Answer → Type 0
CarriesOutWhole m job NoFault answer = answer ≡ ended_answer job (begun job m)
CarriesOutWhole m job Undone answer = answer ≡ stays m replies.BusUndone
CarriesOutWhole m job (LeftPending done) answer = IsLeftOfWhole (total_of job) done × (answer ≡ pending_answer job done (begun job m))
CarriesOutWhole m job ReadFailed answer = ⊥

-- the job that was asked for is carried out, unless it is refused
abbrev pub AnswersWhole : Machine → Result RegionJob Reply → BusOutcome → Answer → Type 0
AnswersWhole m (Ok job) outcome answer = CarriesOutWhole m job outcome answer
AnswersWhole m (Err refusal) outcome answer = Gives outcome answer (stays m refusal)

-- it is begun, unless it is refused
abbrev pub begin_answer : Machine → Result RegionJob Reply → Answer
begin_answer m (Ok job) = becomes (begun job m) (begun_reply job)
begin_answer m (Err refusal) = stays m refusal

-- a create: its job whole, or why there is none
abbrev pub AnswersCreate : Machine → Create → BusOutcome → Answer → Type 0
AnswersCreate m create outcome answer = (asked : Result RegionJob Reply) × AsksCreate m create asked × AnswersWhole m asked outcome answer

-- a create that begins: no write of its job is made
abbrev pub AnswersBeginCreate : Machine → Create → BusOutcome → Answer → Type 0
AnswersBeginCreate m create outcome answer = (asked : Result RegionJob Reply) × AsksCreate m create asked × Gives outcome answer (begin_answer m asked)

-- ---- step and abort

-- as many writes as asked for are made, or all
abbrev pub stepped_answer : Machine → RegionJob → ℕ → Answer
stepped_answer m job steps =
    if nat_le (total_of job) (job.done + steps) then ended_answer job m
    else becomes (at_done job (job.done + steps) m) (replies.Stepped record { done = job.done + steps; total = total_of job })

-- so many writes more of a pending job
abbrev pub Steps : Machine → RegionJob → ℕ → BusOutcome → Answer → Type 0
Steps m job steps NoFault answer = answer ≡ stepped_answer m job steps
Steps m job steps Undone answer = ⊥
Steps m job steps (LeftPending done) answer = IsLeftOfSteps job.done steps (total_of job) done × (answer ≡ pending_answer job done m)
Steps m job steps ReadFailed answer = ⊥

-- the writes of a pending job that are made are taken back
abbrev pub Aborts : Machine → RegionJob → BusOutcome → Answer → Type 0
Aborts m job NoFault answer = answer ≡ becomes (undone job m) (replies.Aborted job.region.name)
Aborts m job Undone answer = ⊥
Aborts m job (LeftPending done) answer = IsLeftOfAbort job.done done × (answer ≡ pending_answer job done m)
Aborts m job ReadFailed answer = ⊥

-- the job that is pending goes on, where there is one
abbrev pub OfPending : Machine → Option RegionJob → BusOutcome → Answer → (RegionJob → Type 0) → Type 0
OfPending m None outcome answer goes = Gives outcome answer (stays m replies.NothingPending)
OfPending m (Some job) outcome answer goes = goes job

-- steps of the job that is pending
abbrev pub AnswersStep : Machine → ℕ → BusOutcome → Answer → Type 0
AnswersStep m steps outcome answer = OfPending m m.job outcome answer (λ job. Steps m job steps outcome answer)

-- the end of the job that is pending, undone
abbrev pub AnswersAbort : Machine → BusOutcome → Answer → Type 0
AnswersAbort m outcome answer = OfPending m m.job outcome answer (λ job. Aborts m job outcome answer)
