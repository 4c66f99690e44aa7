-- How a command can go, by its kind.
use Rattle.std.proofs.Common.{◌≡◌, ℕ, Bool, true, Result, Ok, Err, Option, Some, None, refl, sym, subst}
use Rattle.cxl_script.specs.declared.command.Command.{Command}
use Rattle.cxl_script.specs.declared.command.Command.TheVariants as commands
use Rattle.cxl_reply.specs.declared.reply.Reply.{Reply}
use Rattle.cxl_machine.specs.Machine.{Live, RegionJob, Machine, live_named}
use Rattle.cxl_machine.specs.Jobs.{total_of}
use Rattle.cxl_machine.specs.Goings.{GoesWhole, GoesAsked, GoesSteps, GoesBack, GoesPending, GoesRead, CanGo}
use Rattle.cxl_machine.specs.Outcomes.{BusOutcome, NoFault, Undone, LeftPending, ReadFailed, can_go, of_whole_job, of_steps, of_reads, of_no_call}
use Rattle.cxl_machine.specs.Replies.{Answer}
use Rattle.cxl_machine.specs.Requests.{asked_release}
use Rattle.cxl_machine.specs.Answers.{Answers}
use Rattle.cxl_machine.proofs.GoingAnswers.{answered_goes}

-- a test that passes where no call failed
calm : (test : BusOutcome → Bool) (outcome : BusOutcome) → test NoFault ≡ true → outcome ≡ NoFault → test outcome ≡ true
calm test outcome at is = subst (λ (o : BusOutcome). test o ≡ true) (sym is) at

of_whole : (total : ℕ) (outcome : BusOutcome) → GoesWhole total outcome → of_whole_job outcome ≡ true
of_whole total NoFault can = refl
of_whole total Undone can = refl
of_whole total (LeftPending done) can = refl
of_whole total ReadFailed can = absurd can

asked_goes : (asked : Result RegionJob Reply) (outcome : BusOutcome) → GoesAsked asked outcome → of_whole_job outcome ≡ true
asked_goes (Ok job) outcome can = of_whole (total_of job) outcome can
asked_goes (Err refusal) outcome can = calm of_whole_job outcome refl can

steps_go : (job : RegionJob) (steps : ℕ) (outcome : BusOutcome) → GoesSteps job steps outcome → of_steps outcome ≡ true
steps_go job steps NoFault can = refl
steps_go job steps Undone can = absurd can
steps_go job steps (LeftPending done) can = refl
steps_go job steps ReadFailed can = absurd can

back_goes : (job : RegionJob) (outcome : BusOutcome) → GoesBack job outcome → of_steps outcome ≡ true
back_goes job NoFault can = refl
back_goes job Undone can = absurd can
back_goes job (LeftPending done) can = refl
back_goes job ReadFailed can = absurd can

pending_goes : (o : Option RegionJob) (outcome : BusOutcome) (goes : RegionJob → Type 0) → ((job : RegionJob) → goes job → of_steps outcome ≡ true) → GoesPending o outcome goes
    → of_steps outcome ≡ true
pending_goes None outcome goes each can = calm of_steps outcome refl can
pending_goes (Some job) outcome goes each can = each job can

read_goes : (region : Option Live) (outcome : BusOutcome) → GoesRead region outcome → of_reads outcome ≡ true
read_goes region NoFault can = refl
read_goes region Undone can = absurd can
read_goes region (LeftPending done) can = absurd can
read_goes region ReadFailed can = refl

can_so : (m : Machine) (command : Command) (outcome : BusOutcome) → CanGo m command outcome → can_go command outcome ≡ true
can_so m (commands.Create create) outcome can = asked_goes can.0 outcome can.2
can_so m (commands.Destroy name) outcome can = asked_goes (asked_release m name) outcome can
can_so m (commands.Step steps) outcome can = pending_goes m.job outcome (λ job. GoesSteps job steps outcome) (λ job. steps_go job steps outcome) can
can_so m commands.Abort outcome can = pending_goes m.job outcome (λ job. GoesBack job outcome) (λ job. back_goes job outcome) can
can_so m (commands.Show name) outcome can = read_goes (live_named m name) outcome can
can_so m other outcome can = calm of_no_call outcome refl can

pub goes : (m : Machine) (command : Command) (outcome : BusOutcome) (answer : Answer) → Answers m command outcome answer → can_go command outcome ≡ true
goes m command outcome answer is = can_so m command outcome (answered_goes m command outcome answer is)
