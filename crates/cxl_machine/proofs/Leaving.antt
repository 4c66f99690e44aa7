-- A reply that is a refusal, or that has no short text, leaves the machine.
use Rattle.std.proofs.Common.{◌≡◌, ℕ, ◌+◌, Bool, true, false, if◌then◌else◌, Result, Ok, Err, Option, Some, None, refl, sym, ap, ◌∙◌, subst, inl, inr, ◌⊎◌}
use Rattle.std.proofs.lemmas.Bool.{false≢true}
use Rattle.std.specs.Prelude.{nat_le}
use Rattle.cxl_script.specs.declared.command.Command.{Command}
use Rattle.cxl_reply.specs.declared.reply.Reply.{Reply}
use Rattle.cxl_reply.specs.Replies.{has_short_text}
use Rattle.cxl_machine.specs.Machine.{RegionJob, JobKind, Creates, Releases, Machine}
use Rattle.cxl_machine.specs.Jobs.{total_of, begun}
use Rattle.cxl_machine.specs.Outcomes.{BusOutcome, NoFault, Undone, LeftPending, ReadFailed}
use Rattle.cxl_machine.specs.Replies.{Answer, is_refusal}
use Rattle.cxl_machine.specs.Regions.{CarriesOutWhole, AnswersWhole, begin_answer, ended_reply, ended_answer, Steps, Aborts, OfPending}
use Rattle.cxl_machine.specs.Requests.{asked_release}
use Rattle.cxl_machine.specs.Answers.{Answers}
use Rattle.cxl_machine.specs.Scripts.{Asked, Turn, answer_of, TakesTurn}
use Rattle.cxl_machine.proofs.AccessesLeave.{AccessLeaves, as_it_was, stored, copied, moved, access_leaves}
use Rattle.cxl_machine.proofs.CommandKinds.{by_kind}

-- it has a short text, and is no refusal
abbrev TellsChange : Reply → Type 0
TellsChange reply = (is_refusal reply ≡ false) × (has_short_text reply ≡ true)

-- the machine stays, or the reply tells of a change
abbrev Leaves : Machine → Answer → Type 0
Leaves m answer = (answer.machine ≡ m) ⊎ TellsChange answer.reply

module _ (m : Machine) where
  given : (answer other : Answer) → answer ≡ other → Leaves m other → Leaves m answer
  given answer other is leaves = subst (Leaves m) (sym is) leaves

  by_test : (b : Bool) (answer other : Answer) → Leaves m answer → Leaves m other → Leaves m (if b then answer else other)
  by_test true answer other first second = first
  by_test false answer other first second = second

  pub done_reply : (job : RegionJob) (kind : JobKind) → is_refusal (ended_reply job kind) ≡ false
  done_reply job (Creates rows) = refl
  done_reply job (Releases place) = refl

  pub done_short : (job : RegionJob) (kind : JobKind) → has_short_text (ended_reply job kind) ≡ true
  done_short job (Creates rows) = refl
  done_short job (Releases place) = refl

  done : (job : RegionJob) (machine : Machine) → Leaves m (ended_answer job machine)
  done job machine = inr (done_reply job job.kind, done_short job job.kind)

  carried_out : (job : RegionJob) (outcome : BusOutcome) (answer : Answer) → CarriesOutWhole m job outcome answer → Leaves m answer
  carried_out job NoFault answer is = given answer _ is (done job (begun job m))
  carried_out job Undone answer is = given answer _ is (inl refl)
  carried_out job (LeftPending left) answer is = given answer _ is.1 (inr (refl, refl))
  carried_out job ReadFailed answer is = absurd is

  whole : (asked : Result RegionJob Reply) (outcome : BusOutcome) (answer : Answer) → AnswersWhole m asked outcome answer → Leaves m answer
  whole (Ok job) outcome answer is = carried_out job outcome answer is
  whole (Err refusal) outcome answer is = given answer _ is.told (inl refl)

  begins : (asked : Result RegionJob Reply) → Leaves m (begin_answer m asked)
  begins (Ok job) = inr (refl, refl)
  begins (Err refusal) = inl refl

  stepped : (job : RegionJob) (steps : ℕ) (outcome : BusOutcome) (answer : Answer) → Steps m job steps outcome answer → Leaves m answer
  stepped job steps NoFault answer is =
      given answer _ is (by_test (nat_le (total_of job) (job.done + steps)) _ _ (done job m) (inr (refl, refl)))
  stepped job steps Undone answer is = absurd is
  stepped job steps (LeftPending left) answer is = given answer _ is.1 (inr (refl, refl))
  stepped job steps ReadFailed answer is = absurd is

  aborted : (job : RegionJob) (outcome : BusOutcome) (answer : Answer) → Aborts m job outcome answer → Leaves m answer
  aborted job NoFault answer is = given answer _ is (inr (refl, refl))
  aborted job Undone answer is = absurd is
  aborted job (LeftPending left) answer is = given answer _ is.1 (inr (refl, refl))
  aborted job ReadFailed answer is = absurd is

  pending : (o : Option RegionJob) (outcome : BusOutcome) (answer : Answer) (goes : RegionJob → Type 0) → ((job : RegionJob) → goes job → Leaves m answer)
      → OfPending m o outcome answer goes → Leaves m answer
  pending None outcome answer goes each is = given answer _ is.told (inl refl)
  pending (Some job) outcome answer goes each is = each job is

  by_leaving : (command : Command) (answer : Answer) → AccessLeaves m command answer → Leaves m answer
  by_leaving command answer (as_it_was stays) = inl stays
  by_leaving command answer (stored store region asks at fits room is) = given answer _ is (inr (refl, refl))
  by_leaving command answer (copied pair from to asks are room is) = given answer _ is (inr (refl, refl))
  by_leaving command answer (moved pair from to asks are is) = given answer _ is (inr (refl, refl))

  all_leave : (command : Command) (outcome : BusOutcome) (answer : Answer) → Answers m command outcome answer → Leaves m answer
  all_leave =
      by_kind (λ command. (outcome : BusOutcome) (answer : Answer) → Answers m command outcome answer → Leaves m answer)
      record {
        create = λ create outcome answer is. whole is.0 outcome answer is.2;
        destroy = λ name outcome answer is. whole (asked_release m name) outcome answer is;
        begin_create = λ create outcome answer is. given answer _ is.2.told (begins is.0);
        begin_destroy = λ name outcome answer is. given answer _ is.told (begins (asked_release m name));
        step = λ steps outcome answer is. pending m.job outcome answer (λ job. Steps m job steps outcome answer) (λ job. stepped job steps outcome answer) is;
        abort = λ outcome answer is. pending m.job outcome answer (λ job. Aborts m job outcome answer) (λ job. aborted job outcome answer) is;
      }
      (λ command access outcome answer is. by_leaving command answer (access_leaves m command outcome answer access is))

  pub leaves : (command : Command) (outcome : BusOutcome) (answer : Answer) → Answers m command outcome answer → is_refusal answer.reply ≡ true → answer.machine ≡ m
  leaves command outcome answer is refused =
      elim (all_leave command outcome answer is) [
        | inl same ↦ same
        | inr tells ↦ absurd (false≢true (sym tells.0 ∙ refused))
      ]

  -- a reply without a short text
  quiet : (command : Command) (outcome : BusOutcome) (answer : Answer) → Answers m command outcome answer → has_short_text answer.reply ≡ false → answer.machine ≡ m
  quiet command outcome answer is long =
      elim (all_leave command outcome answer is) [
        | inl same ↦ same
        | inr tells ↦ absurd (false≢true (sym long ∙ tells.1))
      ]

  pub quiet_turn : (one : Asked) (turn : Turn) → TakesTurn m one turn → has_short_text turn.reply ≡ false → turn.machine ≡ m
  quiet_turn (Err fault) turn is long = ap (λ (t : Turn). t.machine) is
  quiet_turn (Ok command) turn is long = quiet command is.0 (answer_of turn) is.1 long
