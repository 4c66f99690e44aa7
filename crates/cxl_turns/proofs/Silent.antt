-- Which replies tell of a fault of the bus: those with a short text, and that a read failed.
use Rattle.std.proofs.Common.{◌≡◌, ◌≢◌, ℕ, true, false, Result, Ok, Err, Option, Some, None, List, [], refl, sym, ap, subst, ◌∙◌, inl, inr, ◌⊎◌}
use Rattle.std.proofs.lemmas.Bool.{false≢true}
use Rattle.cxl_script.specs.declared.command.Command.{Command}
use Rattle.cxl_script.specs.declared.command.Command.TheVariants as commands
use Rattle.cxl_reply.specs.declared.reply.Reply.{Reply}
use Rattle.cxl_reply.specs.declared.reply.Reply.TheVariants as replies
use Rattle.cxl_reply.specs.Replies.{has_short_text}
use Rattle.cxl_machine.proofs.Fails.{none_failed}
use Rattle.cxl_machine.specs.Fails.{FailsOf}
use Rattle.cxl_machine.specs.Machine.{RegionJob, Machine}
use Rattle.cxl_machine.specs.Outcomes.{BusOutcome, NoFault, Undone, LeftPending, ReadFailed}
use Rattle.cxl_machine.specs.Replies.{Answer}
use Rattle.cxl_machine.specs.Reports.{AnswersShow}
use Rattle.cxl_machine.specs.Requests.{asked_release}
use Rattle.cxl_machine.specs.Regions.{CarriesOutWhole, AnswersWhole, Steps, Aborts, OfPending}
use Rattle.cxl_machine.specs.Answers.{Answers}
use Rattle.cxl_machine.specs.Scripts.{Asked, Turn, answer_of, TakesTurn}
use Rattle.cxl_machine.proofs.GoingAnswers.{answered_goes}

-- no call failed, or the reply tells of it
abbrev Tells : BusOutcome → Answer → Type 0
Tells outcome answer = (outcome ≡ NoFault) ⊎ (has_short_text answer.reply ≡ true) ⊎ (answer.reply ≡ replies.BusRead)

module _ (m : Machine) where
  in_short : (outcome : BusOutcome) (answer other : Answer) → answer ≡ other → has_short_text other.reply ≡ true → Tells outcome answer
  in_short outcome answer other is short = inr (inl (ap (λ (a : Answer). has_short_text a.reply) is ∙ short))

  carried_out : (job : RegionJob) (outcome : BusOutcome) (answer : Answer) → CarriesOutWhole m job outcome answer → Tells outcome answer
  carried_out job NoFault answer is = inl refl
  carried_out job Undone answer is = in_short Undone answer _ is refl
  carried_out job (LeftPending done) answer is = in_short (LeftPending done) answer _ is.1 refl
  carried_out job ReadFailed answer is = absurd is

  whole : (asked : Result RegionJob Reply) (outcome : BusOutcome) (answer : Answer) → AnswersWhole m asked outcome answer → Tells outcome answer
  whole (Ok job) outcome answer is = carried_out job outcome answer is
  whole (Err refusal) outcome answer is = inl is.unfailing

  stepped : (job : RegionJob) (steps : ℕ) (outcome : BusOutcome) (answer : Answer) → Steps m job steps outcome answer → Tells outcome answer
  stepped job steps NoFault answer is = inl refl
  stepped job steps Undone answer is = absurd is
  stepped job steps (LeftPending done) answer is = in_short (LeftPending done) answer _ is.1 refl
  stepped job steps ReadFailed answer is = absurd is

  aborted : (job : RegionJob) (outcome : BusOutcome) (answer : Answer) → Aborts m job outcome answer → Tells outcome answer
  aborted job NoFault answer is = inl refl
  aborted job Undone answer is = absurd is
  aborted job (LeftPending done) answer is = in_short (LeftPending done) answer _ is.1 refl
  aborted job ReadFailed answer is = absurd is

  pending : (o : Option RegionJob) (outcome : BusOutcome) (answer : Answer) (goes : RegionJob → Type 0) → ((job : RegionJob) → goes job → Tells outcome answer)
      → OfPending m o outcome answer goes → Tells outcome answer
  pending None outcome answer goes each is = inl is.unfailing
  pending (Some job) outcome answer goes each is = each job is

  shown : (name : List ℕ) (outcome : BusOutcome) (answer : Answer) → AnswersShow m name outcome answer → Tells outcome answer
  shown name NoFault answer is = inl refl
  shown name Undone answer is = absurd is
  shown name (LeftPending done) answer is = absurd is
  shown name ReadFailed answer is = inr (inr (ap (λ (a : Answer). a.reply) is.1))

  told : (command : Command) (outcome : BusOutcome) (answer : Answer) → Answers m command outcome answer → Tells outcome answer
  told (commands.Create create) outcome answer (asked, asks, is) = whole asked outcome answer is
  told (commands.Destroy name) outcome answer is = whole (asked_release m name) outcome answer is
  told (commands.Show name) outcome answer is = shown name outcome answer is
  told (commands.Step steps) outcome answer is =
      pending m.job outcome answer (λ job. Steps m job steps outcome answer) (λ job. stepped job steps outcome answer) is
  told commands.Abort outcome answer is =
      pending m.job outcome answer (λ job. Aborts m job outcome answer) (λ job. aborted job outcome answer) is
  told other outcome answer is = inl (answered_goes m other outcome answer is)

  -- behind a reply without a short text no call of the bus failed, unless a read did
  pub silent_turn : (one : Asked) (turn : Turn) → TakesTurn m one turn → has_short_text turn.reply ≡ false → turn.reply ≢ replies.BusRead → turn.failed ≡ []
  silent_turn (Err fault) turn is long other = ap (λ (t : Turn). t.failed) is
  silent_turn (Ok command) turn (outcome, is, trail, fails) long other = elim (told command outcome (answer_of turn) is) [
    | inl none ↦ none_failed m command turn.trail turn.failed (subst (λ (o : BusOutcome). FailsOf m command o turn.trail turn.failed) none fails)
    | inr (inl short) ↦ absurd (false≢true (sym long ∙ short))
    | inr (inr read) ↦ absurd (other read)
  ]
