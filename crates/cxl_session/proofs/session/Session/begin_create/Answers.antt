use Rattle.std.proofs.Common.{Result, refl, sym, ap, subst}
use Rattle.std.proofs.lemmas.Bool.{false≢true}
use Rattle.std.specs.Prelude.{IfOk}
use Rattle.cxl_apply.specs.Steps.{HasWordsOf}
use Rattle.cxl_reply.specs.declared.reply.Reply.{Reply}
use Rattle.cxl_reply.specs.declared.reply.Reply.TheVariants as replies
use Rattle.cxl_script.specs.declared.command.Command.TheVariants as commands
use Rattle.cxl_session.specs.declared.pending.PendingJob.{PendingJob}
use Rattle.cxl_session.specs.Inside.{job_fields}
use Rattle.cxl_session.specs.State.{SessionState}
use Rattle.cxl_session.specs.inner.Answering.{IsTurnFor}
use Rattle.cxl_session.specs.inner.Creating.{IsAskedCreate}
use Rattle.cxl_session.proofs.Creates.{begin_turn, begin_refused}
use Rattle.cxl_opening.proofs.Errors.{not_ok, at_any_err}
use Rattle.cxl_session.proofs.session.Session.begin_create.Goals as goal

pub returns-in-Err-clause-turn : goal.returns-in-Err-clause-turn
returns-in-Err-clause-turn c = λ regs media.
    begin_refused c.args.self.now c.args.create.now c.in-Err.refusal
    (λ m stands is. subst (λ (a : Result PendingJob Reply). IsAskedCreate m c.args.create.now a) c.in-Err.is (c.in_ok-pending.ensures.asked m stands is)) regs media

pub returns-clause-turn : goal.returns-clause-turn
returns-clause-turn c = λ regs media.
    subst (λ (next : SessionState). IsTurnFor c.args.self.now next regs regs media media (commands.BeginCreate c.args.create.now)
    (replies.Begun record { name = c.in-Ok.pending.name; writes = c.total-writes.result })) (sym c.keep.ensures)
    (begin_turn (record { machine = c.asked_creates_begin_as_machines.ensures.machine; idle = c.asked_creates_begin_as_machines.ensures.idle }) c.args.self.now c.args.create.now (job_fields c.in-Ok.pending)
    (λ m stands is. subst (λ (a : Result PendingJob Reply). IsAskedCreate m c.args.create.now a) c.in-Ok.is (c.in_ok-pending.ensures.asked m stands is))
    regs media c.total-writes.result c.total-writes.ensures)

pub returns-in_err-pending-clause-turn : goal.returns-in_err-pending-clause-turn
returns-in_err-pending-clause-turn c = not_ok _ c.from_residual.result _ c.from_residual.ensures.1

pub returns-in_err-pending-clause-refused : goal.returns-in_err-pending-clause-refused
returns-in_err-pending-clause-refused c = not_ok _ c.from_residual.result _ c.from_residual.ensures.1

pub returns-in_err-pending-clause-memory : goal.returns-in_err-pending-clause-memory
returns-in_err-pending-clause-memory c = at_any_err c.from_residual.result _ refl

pub returns-in_err-pending-clause-host : goal.returns-in_err-pending-clause-host
returns-in_err-pending-clause-host c = (refl, refl)

pub returns-in-Err-clause-refused : goal.returns-in-Err-clause-refused
returns-in-Err-clause-refused c = λ _. refl

pub returns-in-Err-clause-memory : goal.returns-in-Err-clause-memory
returns-in-Err-clause-memory c = tt

pub returns-in-Err-clause-host : goal.returns-in-Err-clause-host
returns-in-Err-clause-host c = (refl, refl)

pub returns-clause-refused : goal.returns-clause-refused
returns-clause-refused c = λ is. absurd (false≢true is)

pub returns-clause-memory : goal.returns-clause-memory
returns-clause-memory c = tt

pub returns-clause-host : goal.returns-clause-host
returns-clause-host c = (ap (λ (s : SessionState). s.topo) c.keep.ensures, ap (λ (s : SessionState). s.windows) c.keep.ensures)

pub keep-requires : goal.keep-requires
keep-requires c =
    subst (λ (a : Result PendingJob Reply). IfOk a (λ pending. HasWordsOf c.args.self.now.image pending.job.writes)) c.in-Ok.is c.in_ok-pending.ensures.words

pub returns-in_err-pending-clause-outright : goal.returns-in_err-pending-clause-outright
returns-in_err-pending-clause-outright c = λ m stands is refused. absurd (false≢true (c.in_err-pending.ensures.outright m stands is refused))

pub returns-in-Err-clause-outright : goal.returns-in-Err-clause-outright
returns-in-Err-clause-outright c = λ _ _ _ _. refl

pub returns-clause-outright : goal.returns-clause-outright
returns-clause-outright c = λ _ _ _ _. refl
