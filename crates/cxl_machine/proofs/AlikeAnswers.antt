-- A command and how it went have one answer.
use Rattle.std.proofs.Common.{◌≡◌, ℕ, List, Result, Ok, Err, Option, Some, None, sym, ap, ◌∙◌, subst}
use Rattle.std.proofs.lemmas.Option.{none-some, same_Some}
use Rattle.cxl_script.specs.declared.command.Command.{Command}
use Rattle.cxl_script.specs.declared.command.Command.TheVariants as commands
use Rattle.cxl_script.specs.declared.command.Create.{Create}
use Rattle.cxl_script.specs.declared.command.Poison.{Poison}
use Rattle.cxl_script.specs.declared.command.Up.{Up}
use Rattle.cxl_reply.specs.declared.reply.Reply.{Reply}
use Rattle.cxl_machine.specs.Machine.{RegionJob, Machine}
use Rattle.cxl_machine.specs.Outcomes.{BusOutcome, NoFault, Undone, LeftPending, ReadFailed}
use Rattle.cxl_machine.specs.Replies.{Answer, stays, Gives}
use Rattle.cxl_machine.specs.Accesses.{AnswersUp, TellsHost, no_endpoint, told}
use Rattle.cxl_machine.specs.Reports.{AnswersShow, AnswersPoison, TellsPoison}
use Rattle.cxl_machine.specs.Reports as reports
use Rattle.cxl_machine.specs.Requests.{AsksCreate, AsksUnless, job_of_plan, refusal_of_create}
use Rattle.cxl_machine.specs.Regions.{CarriesOutWhole, AnswersWhole, begin_answer, Steps, Aborts, OfPending}
use Rattle.cxl_machine.specs.Answers.{Answers}
use Rattle.cxl_machine.specs.Sound.{IsMachine}
use Rattle.cxl_machine.proofs.Alike.{CarriageLaws, one_told}
use Rattle.cxl_machine.proofs.PoisonReplies.{OneTelling, one_reply}

-- ---- where answers are functions

gives : (outcome : BusOutcome) (answer other given : Answer) → Gives outcome answer given → Gives outcome other given → answer ≡ other
gives outcome answer other given one two = one.told ∙ sym two.told

-- ---- the job that is asked for

module _ (m : Machine) where
  one_unless : (create : Create) (refusal : Option Reply) (asked other : Result RegionJob Reply) → AsksUnless m create refusal asked → AsksUnless m create refusal other
      → asked ≡ other
  one_unless create (Some refusal) asked other one two = one ∙ sym two
  one_unless create None asked other (answer, answered, made) (answer', answered', made') =
      made ∙ ap (job_of_plan m) (answered ∙ sym answered') ∙ sym made'

  pub one_asked : (create : Create) (asked other : Result RegionJob Reply) → AsksCreate m create asked → AsksCreate m create other → asked ≡ other
  one_asked create = one_unless create (refusal_of_create m create)

  -- ---- jobs

  carried_out : (job : RegionJob) (outcome : BusOutcome) (answer other : Answer) → CarriesOutWhole m job outcome answer → CarriesOutWhole m job outcome other
      → answer ≡ other
  carried_out job NoFault answer other one two = one ∙ sym two
  carried_out job Undone answer other one two = one ∙ sym two
  carried_out job (LeftPending done) answer other one two = one.1 ∙ sym two.1
  carried_out job ReadFailed answer other one two = absurd one

  whole : (asked : Result RegionJob Reply) (outcome : BusOutcome) (answer other : Answer) → AnswersWhole m asked outcome answer → AnswersWhole m asked outcome other
      → answer ≡ other
  whole (Ok job) outcome answer other one two = carried_out job outcome answer other one two
  whole (Err refusal) outcome answer other one two = gives outcome answer other _ one two

  stepped : (job : RegionJob) (steps : ℕ) (outcome : BusOutcome) (answer other : Answer) → Steps m job steps outcome answer → Steps m job steps outcome other
      → answer ≡ other
  stepped job steps NoFault answer other one two = one ∙ sym two
  stepped job steps Undone answer other one two = absurd one
  stepped job steps (LeftPending done) answer other one two = one.1 ∙ sym two.1
  stepped job steps ReadFailed answer other one two = absurd one

  aborted : (job : RegionJob) (outcome : BusOutcome) (answer other : Answer) → Aborts m job outcome answer → Aborts m job outcome other → answer ≡ other
  aborted job NoFault answer other one two = one ∙ sym two
  aborted job Undone answer other one two = absurd one
  aborted job (LeftPending done) answer other one two = one.1 ∙ sym two.1
  aborted job ReadFailed answer other one two = absurd one

  pending : (o : Option RegionJob) (outcome : BusOutcome) (answer other : Answer) (goes : Answer → RegionJob → Type 0)
      → ((job : RegionJob) → goes answer job → goes other job → answer ≡ other) → OfPending m o outcome answer (goes answer) → OfPending m o outcome other (goes other)
      → answer ≡ other
  pending None outcome answer other goes each one two = gives outcome answer other _ one two
  pending (Some job) outcome answer other goes each one two = each job one two

  shown : (name : List ℕ) (outcome : BusOutcome) (answer other : Answer) → AnswersShow m name outcome answer → AnswersShow m name outcome other → answer ≡ other
  shown name NoFault answer other one two = one ∙ sym two
  shown name Undone answer other one two = absurd one
  shown name (LeftPending done) answer other one two = absurd one
  shown name ReadFailed answer other one two = one.1 ∙ sym two.1

-- ---- device bytes

module _ (laws : CarriageLaws) (lists : OneTelling) (m : Machine) (is : IsMachine m) where
  up : (asked : Up) (answer other : Answer) → AnswersUp m asked answer → AnswersUp m asked other → answer ≡ other
  up asked answer other (no_endpoint none one) (no_endpoint none' two) = one ∙ sym two
  up asked answer other (no_endpoint none one) (told endpoint reply there tells two) = absurd (none-some endpoint (sym none ∙ there))
  up asked answer other (told endpoint reply there tells two) (no_endpoint none one) = absurd (none-some endpoint (sym none ∙ there))
  up asked answer other (told endpoint reply there tells one) (told endpoint' reply' there' tells' two) =
      let same : endpoint ≡ endpoint' = same_Some endpoint endpoint' (sym there ∙ there') in
      let replies_same = one_told laws m is endpoint' asked.dpa reply reply' (subst (λ (n : ℕ). TellsHost m n asked.dpa reply) same tells) tells' in
      one ∙ ap (stays m) replies_same ∙ sym two

  poison : (asked : Poison) (answer other : Answer) → AnswersPoison m asked answer → AnswersPoison m asked other → answer ≡ other
  poison asked answer other (reports.no_endpoint none one) (reports.no_endpoint none' two) = one ∙ sym two
  poison asked answer other (reports.no_endpoint none one) (reports.told endpoint reply there tells two) = absurd (none-some endpoint (sym none ∙ there))
  poison asked answer other (reports.told endpoint reply there tells two) (reports.no_endpoint none one) = absurd (none-some endpoint (sym none ∙ there))
  poison asked answer other (reports.told endpoint reply there tells one) (reports.told endpoint' reply' there' tells' two) =
      let same : endpoint ≡ endpoint' = same_Some endpoint endpoint' (sym there ∙ there') in
      let moved = subst (λ (n : ℕ). TellsPoison m n asked.bytes reply) same tells in
      one ∙ ap (stays m) (one_reply m is endpoint' asked.bytes lists reply reply' moved tells') ∙ sym two

  pub one_answer : (command : Command) (outcome : BusOutcome) (answer other : Answer) → Answers m command outcome answer → Answers m command outcome other → answer ≡ other
  one_answer (commands.Create create) outcome answer other (asked, asks, one) (asked', asks', two) =
      whole m asked outcome answer other one (subst (λ (a : Result RegionJob Reply). AnswersWhole m a outcome other) (one_asked m create asked' asked asks' asks) two)
  one_answer (commands.Destroy name) outcome answer other one two = whole m _ outcome answer other one two
  one_answer (commands.Show name) outcome answer other one two = shown m name outcome answer other one two
  one_answer (commands.Up asked) outcome answer other one two = up asked answer other one.1 two.1
  one_answer (commands.Poison asked) outcome answer other one two = poison asked answer other one.1 two.1
  one_answer (commands.BeginCreate create) outcome answer other (asked, asks, one) (asked', asks', two) =
      gives outcome answer other (begin_answer m asked) one (subst (λ (a : Result RegionJob Reply). Gives outcome other (begin_answer m a)) (one_asked m create asked' asked asks' asks) two)
  one_answer (commands.Step steps) outcome answer other one two =
      pending m m.job outcome answer other (λ a job. Steps m job steps outcome a) (λ job. stepped m job steps outcome answer other) one two
  one_answer commands.Abort outcome answer other one two =
      pending m m.job outcome answer other (λ a job. Aborts m job outcome a) (λ job. aborted m job outcome answer other) one two
  one_answer command outcome answer other one two = gives outcome answer other _ one two
