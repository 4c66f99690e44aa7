-- A command is answered exactly where the bus can let it go so.
use Rattle.std.proofs.Common.{◌≡◌, ℕ, List, Result, Ok, Err, Option, Some, None, refl, sym, subst}
use Rattle.cxl_script.specs.declared.command.Command.{Command}
use Rattle.cxl_script.specs.declared.command.Command.TheVariants as commands
use Rattle.cxl_reply.specs.declared.reply.Reply.{Reply}
use Rattle.cxl_reply.specs.declared.reply.Reply.TheVariants as replies
use Rattle.cxl_machine.specs.Machine.{RegionJob, Machine, live_named}
use Rattle.cxl_machine.specs.Jobs.{begun}
use Rattle.cxl_machine.specs.Outcomes.{BusOutcome, NoFault, Undone, LeftPending, ReadFailed}
use Rattle.cxl_machine.specs.Goings.{GoesAsked, GoesSteps, GoesBack, GoesPending, GoesRead, CanGo}
use Rattle.cxl_machine.specs.Replies.{Answer, stays}
use Rattle.cxl_machine.specs.Reports.{AnswersShow, show_answer}
use Rattle.cxl_machine.specs.Requests.{asked_release}
use Rattle.cxl_machine.specs.Regions.{AnswersWhole, pending_answer, Steps, Aborts, OfPending}
use Rattle.cxl_machine.specs.Answers.{Answers}
use Rattle.cxl_machine.specs.Sound.{IsMachine}

-- ---- an answer for each

-- what is answered where nothing failed
abbrev pub CalmLaw : Type 0
CalmLaw = (m : Machine) (command : Command) → IsMachine m → (answer : Answer) × Answers m command NoFault answer

module _ (m : Machine) where
  whole_answer : (asked : Result RegionJob Reply) (outcome : BusOutcome) → GoesAsked asked outcome → (answer : Answer) × AnswersWhole m asked outcome answer
  whole_answer (Ok job) NoFault goes = (_, refl)
  whole_answer (Ok job) Undone goes = (_, refl)
  whole_answer (Ok job) (LeftPending done) goes = (pending_answer job done (begun job m), (goes, refl))
  whole_answer (Ok job) ReadFailed goes = absurd goes
  whole_answer (Err refusal) outcome goes = (stays m refusal, record { unfailing = goes; told = refl })

  steps_answer : (job : RegionJob) (steps : ℕ) (outcome : BusOutcome) → GoesSteps job steps outcome → (answer : Answer) × Steps m job steps outcome answer
  steps_answer job steps NoFault goes = (_, refl)
  steps_answer job steps Undone goes = absurd goes
  steps_answer job steps (LeftPending done) goes = (pending_answer job done m, (goes, refl))
  steps_answer job steps ReadFailed goes = absurd goes

  abort_answer : (job : RegionJob) (outcome : BusOutcome) → GoesBack job outcome → (answer : Answer) × Aborts m job outcome answer
  abort_answer job NoFault goes = (_, refl)
  abort_answer job Undone goes = absurd goes
  abort_answer job (LeftPending done) goes = (pending_answer job done m, (goes, refl))
  abort_answer job ReadFailed goes = absurd goes

  pending_goes : (o : Option RegionJob) (outcome : BusOutcome) (goes : RegionJob → Type 0) (answers : Answer → RegionJob → Type 0) → ((job : RegionJob) → goes job → (answer : Answer) × answers answer job)
      → GoesPending o outcome goes → (answer : Answer) × OfPending m o outcome answer (answers answer)
  pending_goes None outcome goes answers each can = (stays m replies.NothingPending, record { unfailing = can; told = refl })
  pending_goes (Some job) outcome goes answers each can = each job can

  show_answered : (name : List ℕ) (outcome : BusOutcome) → GoesRead (live_named m name) outcome → (answer : Answer) × AnswersShow m name outcome answer
  show_answered name NoFault goes = (show_answer m name, refl)
  show_answered name Undone goes = absurd goes
  show_answered name (LeftPending done) goes = absurd goes
  show_answered name ReadFailed goes = (stays m replies.BusRead, (goes, refl))

  module _ (law : CalmLaw) (is : IsMachine m) where
    calm : (command : Command) (outcome : BusOutcome) → outcome ≡ NoFault → (answer : Answer) × Answers m command outcome answer
    calm command outcome none = subst (λ (o : BusOutcome). (answer : Answer) × Answers m command o answer) (sym none) (law m command is)

    pub goes_answered : (command : Command) (outcome : BusOutcome) → CanGo m command outcome → (answer : Answer) × Answers m command outcome answer
    goes_answered (commands.Create create) outcome (asked, asks, goes) =
        let own = whole_answer asked outcome goes in
        (own.0, (asked, asks, own.1))
    goes_answered (commands.Destroy name) outcome goes = whole_answer (asked_release m name) outcome goes
    goes_answered (commands.Step steps) outcome goes =
        pending_goes m.job outcome (λ job. GoesSteps job steps outcome) (λ answer job. Steps m job steps outcome answer) (λ job. steps_answer job steps outcome) goes
    goes_answered commands.Abort outcome goes =
        pending_goes m.job outcome (λ job. GoesBack job outcome) (λ answer job. Aborts m job outcome answer) (λ job. abort_answer job outcome) goes
    goes_answered (commands.Show name) outcome goes = show_answered name outcome goes
    goes_answered other outcome goes = calm other outcome goes

  -- ---- and no other

  whole_goes : (asked : Result RegionJob Reply) (outcome : BusOutcome) (answer : Answer) → AnswersWhole m asked outcome answer → GoesAsked asked outcome
  whole_goes (Ok job) NoFault answer at = tt
  whole_goes (Ok job) Undone answer at = tt
  whole_goes (Ok job) (LeftPending done) answer at = at.0
  whole_goes (Ok job) ReadFailed answer at = absurd at
  whole_goes (Err refusal) outcome answer at = at.unfailing

  steps_go : (job : RegionJob) (steps : ℕ) (outcome : BusOutcome) (answer : Answer) → Steps m job steps outcome answer → GoesSteps job steps outcome
  steps_go job steps NoFault answer at = tt
  steps_go job steps Undone answer at = absurd at
  steps_go job steps (LeftPending done) answer at = at.0
  steps_go job steps ReadFailed answer at = absurd at

  abort_goes : (job : RegionJob) (outcome : BusOutcome) (answer : Answer) → Aborts m job outcome answer → GoesBack job outcome
  abort_goes job NoFault answer at = tt
  abort_goes job Undone answer at = absurd at
  abort_goes job (LeftPending done) answer at = at.0
  abort_goes job ReadFailed answer at = absurd at

  went_pending : (o : Option RegionJob) (outcome : BusOutcome) (answer : Answer) (goes answers : RegionJob → Type 0) → ((job : RegionJob) → answers job → goes job) → OfPending m o outcome answer answers
      → GoesPending o outcome goes
  went_pending None outcome answer goes answers each at = at.unfailing
  went_pending (Some job) outcome answer goes answers each at = each job at

  show_goes : (name : List ℕ) (outcome : BusOutcome) (answer : Answer) → AnswersShow m name outcome answer → GoesRead (live_named m name) outcome
  show_goes name NoFault answer at = tt
  show_goes name Undone answer at = absurd at
  show_goes name (LeftPending done) answer at = absurd at
  show_goes name ReadFailed answer at = at.0

  pub answered_goes : (command : Command) (outcome : BusOutcome) (answer : Answer) → Answers m command outcome answer → CanGo m command outcome
  answered_goes (commands.Create create) outcome answer (asked, asks, at) = (asked, asks, whole_goes asked outcome answer at)
  answered_goes (commands.Destroy name) outcome answer at = whole_goes (asked_release m name) outcome answer at
  answered_goes (commands.Step steps) outcome answer at =
      went_pending m.job outcome answer (λ job. GoesSteps job steps outcome) (λ job. Steps m job steps outcome answer) (λ job. steps_go job steps outcome answer) at
  answered_goes commands.Abort outcome answer at =
      went_pending m.job outcome answer (λ job. GoesBack job outcome) (λ job. Aborts m job outcome answer) (λ job. abort_goes job outcome answer) at
  answered_goes (commands.Show name) outcome answer at = show_goes name outcome answer at
  answered_goes (commands.Up up) outcome answer at = at.0
  answered_goes (commands.Poison poison) outcome answer at = at.0
  answered_goes (commands.BeginCreate create) outcome answer (asked, asks, at) = at.unfailing
  answered_goes other outcome answer at = at.unfailing
