-- A command that is refused writes nothing, and so does one whose reply has no short text.
use Rattle.std.proofs.Common.{◌≡◌, ◌⊎◌, ℕ, ◌+◌, Bool, true, false, if◌then◌else◌, List, [], Option, Some, None, Result, Ok, Err, refl, sym, ap, ◌∙◌, subst, inl, inr}
use Rattle.std.specs.Prelude.{nat_le}
use Rattle.std.proofs.lemmas.Bool.{false≢true}
use Rattle.cxl_bus.specs.declared.sent.Sent.{Sent}
use Rattle.cxl_script.specs.declared.command.Command.{Command}
use Rattle.cxl_script.specs.declared.command.Command.TheVariants as commands
use Rattle.cxl_reply.specs.declared.reply.Reply.{Reply}
use Rattle.cxl_reply.specs.Replies.{has_short_text}
use Rattle.cxl_machine.specs.Machine.{RegionJob, Machine}
use Rattle.cxl_machine.specs.Jobs.{total_of, begun}
use Rattle.cxl_machine.specs.Outcomes.{BusOutcome, NoFault, Undone, LeftPending, ReadFailed}
use Rattle.cxl_machine.specs.Replies.{Answer, is_refusal}
use Rattle.cxl_machine.specs.Regions.{CarriesOutWhole, AnswersWhole, ended_answer, stepped_answer, Steps, Aborts, OfPending}
use Rattle.cxl_machine.specs.Answers.{Answers}
use Rattle.cxl_machine.specs.Scripts.{Asked, Turn, answer_of, TakesTurn}
use Rattle.cxl_machine.specs.Trails.{SendsAsked, SendsSteps, SendsAbort, SendsPending, TrailOf}
use Rattle.cxl_machine.proofs.AlikeAnswers.{one_asked}
use Rattle.cxl_machine.proofs.Leaving.{done_reply, done_short}

-- it has a short text, and is no refusal where no call of the bus failed
abbrev Tells : BusOutcome → Reply → Type 0
Tells outcome reply = (has_short_text reply ≡ true) × (outcome ≡ NoFault → is_refusal reply ≡ false)

module _ (m : Machine) (answer : Answer) where
  tells_as : (outcome : BusOutcome) (other : Answer) → answer ≡ other → Tells outcome other.reply → Tells outcome answer.reply
  tells_as outcome other same tells = subst (λ (a : Answer). Tells outcome a.reply) (sym same) tells

  done : (job : RegionJob) (outcome : BusOutcome) → Tells outcome (ended_answer job m).reply
  done job outcome = (done_short m job job.kind, λ calm. done_reply m job job.kind)

  carried_out : (job : RegionJob) (outcome : BusOutcome) → CarriesOutWhole m job outcome answer → Tells outcome answer.reply
  carried_out job NoFault is = tells_as NoFault (ended_answer job (begun job m)) is (done job NoFault)
  carried_out job Undone is = tells_as Undone _ is (refl, λ calm. cc)
  carried_out job (LeftPending left) is = tells_as (LeftPending left) _ is.1 (refl, λ calm. refl)
  carried_out job ReadFailed is = absurd is

  by_test : (b : Bool) (outcome : BusOutcome) (one other : Answer) → Tells outcome one.reply → Tells outcome other.reply → Tells outcome (if b then one else other).reply
  by_test true outcome one other first second = first
  by_test false outcome one other first second = second

  stepped : (job : RegionJob) (steps : ℕ) (outcome : BusOutcome) → Steps m job steps outcome answer → Tells outcome answer.reply
  stepped job steps NoFault is =
      tells_as NoFault (stepped_answer m job steps) is (by_test (nat_le (total_of job) (job.done + steps)) NoFault _ _ (done job NoFault) (refl, λ calm. refl))
  stepped job steps Undone is = absurd is
  stepped job steps (LeftPending left) is = tells_as (LeftPending left) _ is.1 (refl, λ calm. refl)
  stepped job steps ReadFailed is = absurd is

  aborted : (job : RegionJob) (outcome : BusOutcome) → Aborts m job outcome answer → Tells outcome answer.reply
  aborted job NoFault is = tells_as NoFault _ is (refl, λ calm. refl)
  aborted job Undone is = absurd is
  aborted job (LeftPending left) is = tells_as (LeftPending left) _ is.1 (refl, λ calm. refl)
  aborted job ReadFailed is = absurd is

  module _ (trail : List Sent) (outcome : BusOutcome) where
    -- nothing is written, or the reply tells of it
    abbrev Told : Type 0
    Told = (trail ≡ []) ⊎ Tells outcome answer.reply

    whole : (asked : Result RegionJob Reply) → AnswersWhole m asked outcome answer → SendsAsked asked outcome trail → Told
    whole (Ok job) is sends = inr (carried_out job outcome is)
    whole (Err refusal) is sends = inl sends

    pending : (o : Option RegionJob) (goes sends : RegionJob → Type 0) → ((job : RegionJob) → goes job → Tells outcome answer.reply) → OfPending m o outcome answer goes
        → SendsPending o trail sends → Told
    pending None goes sends each is nothing = inl nothing
    pending (Some job) goes sends each is sent = inr (each job is)

    told : (command : Command) → Answers m command outcome answer → TrailOf m command outcome trail → Told
    told (commands.Create create) (asked, asks, is) (asked', asks', sends) =
        whole asked is (subst (λ (a : Result RegionJob Reply). SendsAsked a outcome trail) (one_asked m create asked' asked asks' asks) sends)
    told (commands.Destroy name) is sends = whole _ is sends
    told (commands.Step steps) is sends =
        pending m.job (λ job. Steps m job steps outcome answer) (λ job. SendsSteps job steps outcome trail) (λ job. stepped job steps outcome) is sends
    told commands.Abort is sends =
        pending m.job (λ job. Aborts m job outcome answer) (λ job. SendsAbort job outcome trail) (λ job. aborted job outcome) is sends
    told other is sends = inl sends

  pub nothing : (trail : List Sent) → is_refusal answer.reply ≡ true → (command : Command) → Answers m command NoFault answer → TrailOf m command NoFault trail → trail ≡ []
  nothing trail refused command is sends =
      elim (told trail NoFault command is sends) [
        | inl none ↦ none
        | inr tells ↦ absurd (false≢true (sym (tells.1 refl) ∙ refused))
      ]

-- a reply without a short text
pub quiet_words : (m : Machine) (one : Asked) (turn : Turn) → TakesTurn m one turn → has_short_text turn.reply ≡ false → turn.trail ≡ []
quiet_words m (Err fault) turn is long = ap (λ (t : Turn). t.trail) is
quiet_words m (Ok command) turn is long =
    elim (told m (answer_of turn) turn.trail is.0 command is.1 is.2) [
      | inl none ↦ none
      | inr tells ↦ absurd (false≢true (sym long ∙ tells.0))
    ]
