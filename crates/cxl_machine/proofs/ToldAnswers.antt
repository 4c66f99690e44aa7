-- Each command is answered where no call of the bus failed.
use Rattle.std.proofs.Common.{◌≡◌, ℕ, Result, Ok, Err, Option, Some, None, refl}
use Rattle.cxl_poison.proofs.SomeTelling.{CarriesSome}
use Rattle.cxl_script.specs.declared.command.Command.{Command}
use Rattle.cxl_script.specs.declared.command.Command.TheVariants as commands
use Rattle.cxl_script.specs.declared.command.Create.{Create}
use Rattle.cxl_script.specs.declared.command.Poison.{Poison}
use Rattle.cxl_script.specs.declared.command.Up.{Up}
use Rattle.cxl_reply.specs.declared.reply.Reply.{Reply}
use Rattle.cxl_reply.specs.declared.reply.Reply.TheVariants as replies
use Rattle.cxl_request.specs.Requests.{asked_plan}
use Rattle.cxl_machine.specs.Machine.{RegionJob, Machine}
use Rattle.cxl_machine.specs.Jobs.{begun}
use Rattle.cxl_machine.specs.Outcomes.{NoFault}
use Rattle.cxl_machine.specs.Replies.{Answer, stays, Gives, endpoint_named}
use Rattle.cxl_machine.specs.Accesses.{AnswersUp, no_endpoint, told}
use Rattle.cxl_machine.specs.Reports.{AnswersPoison}
use Rattle.cxl_machine.specs.Reports as reports
use Rattle.cxl_machine.specs.Requests.{AsksCreate, AsksUnless, job_of_plan, refusal_of_create, asked_release}
use Rattle.cxl_machine.specs.Regions.{AnswersWhole, begin_answer, Steps, Aborts, OfPending, ended_answer}
use Rattle.cxl_machine.specs.Answers.{Answers}
use Rattle.cxl_machine.specs.Sound.{IsMachine}
use Rattle.cxl_machine.proofs.PoisonReplies.{SomeTelling, some_reply}
use Rattle.cxl_machine.proofs.Told.{some_told}

given : (answer : Answer) → (a : Answer) × Gives NoFault a answer
given answer = (answer, record { unfailing = refl; told = refl })

module _ (m : Machine) where
  some_unless : (create : Create) (refusal : Option Reply) → (asked : Result RegionJob Reply) × AsksUnless m create refusal asked
  some_unless create (Some refusal) = (Err refusal, refl)
  some_unless create None = (job_of_plan m (asked_plan m.settled create), (asked_plan m.settled create, refl, refl))

  some_asked : (create : Create) → (asked : Result RegionJob Reply) × AsksCreate m create asked
  some_asked create = some_unless create (refusal_of_create m create)

  some_whole : (asked : Result RegionJob Reply) → (answer : Answer) × AnswersWhole m asked NoFault answer
  some_whole (Ok job) = (ended_answer job (begun job m), refl)
  some_whole (Err refusal) = given (stays m refusal)

  some_pending : (o : Option RegionJob) (goes : Answer → RegionJob → Type 0) → ((job : RegionJob) → (answer : Answer) × goes answer job)
      → (answer : Answer) × OfPending m o NoFault answer (goes answer)
  some_pending None goes each = given (stays m replies.NothingPending)
  some_pending (Some job) goes each = each job

module _ (onto : CarriesSome) (lists : SomeTelling) (m : Machine) (is : IsMachine m) where
  up_by : (asked : Up) (o : Option ℕ) → endpoint_named m.settled.nodes asked.endpoint ≡ o → (answer : Answer) × AnswersUp m asked answer
  up_by asked None is_none = (stays m (replies.NoEndpoint asked.endpoint), no_endpoint is_none refl)
  up_by asked (Some endpoint) is_some =
      let (reply, tells) = some_told onto m is endpoint asked.dpa in
      (stays m reply, told endpoint reply is_some tells refl)

  poison_by : (asked : Poison) (o : Option ℕ) → endpoint_named m.settled.nodes asked.endpoint ≡ o → (answer : Answer) × AnswersPoison m asked answer
  poison_by asked None is_none = (stays m (replies.NoEndpoint asked.endpoint), reports.no_endpoint is_none refl)
  poison_by asked (Some endpoint) is_some =
      let (reply, tells) = some_reply m is endpoint asked.bytes lists in
      (stays m reply, reports.told endpoint reply is_some tells refl)

  pub some_answer : (command : Command) → (answer : Answer) × Answers m command NoFault answer
  some_answer (commands.Create create) =
      let (asked, asks) = some_asked m create in
      let (answer, is_answer) = some_whole m asked in
      (answer, (asked, asks, is_answer))
  some_answer (commands.Destroy name) = some_whole m (asked_release m name)
  some_answer (commands.Show name) = (_, refl)
  some_answer (commands.Up asked) =
      let (answer, tells) = up_by asked _ refl in
      (answer, (refl, tells))
  some_answer (commands.Poison asked) =
      let (answer, tells) = poison_by asked _ refl in
      (answer, (refl, tells))
  some_answer (commands.BeginCreate create) =
      let (asked, asks) = some_asked m create in
      (begin_answer m asked, (asked, asks, record { unfailing = refl; told = refl }))
  some_answer (commands.Step steps) = some_pending m m.job (λ a job. Steps m job steps NoFault a) (λ job. (_, refl))
  some_answer commands.Abort = some_pending m m.job (λ a job. Aborts m job NoFault a) (λ job. (_, refl))
  some_answer other = given _
